use Rattle.std.proofs.Common.{◌≡◌, ap, arith}
use Rattle.fc_tree_build.specs.Spares.{leaves_for}
use Rattle.fc_tree_build.proofs.Builders.{leaves_some}
use Rattle.fc_tree_build.proofs.spares.leaf_count.Goals as goal

pub returns-then-n-eq0 : goal.returns-then-n-eq0
returns-then-n-eq0 c = let e : 0 ≡ c.args.n = omega arith in ap leaves_for e

pub returns-else-n-eq0 : goal.returns-else-n-eq0
returns-else-n-eq0 c = leaves_some c.args.n (omega arith)
