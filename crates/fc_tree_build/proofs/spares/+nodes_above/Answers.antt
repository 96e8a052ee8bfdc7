use Rattle.std.proofs.Common.{◌≡◌, sym, ap, ◌∙◌, arith}
use Rattle.fc_tree_build.specs.Spares.{inner_above}
use Rattle.fc_tree_build.proofs.Above.{above_none, above_more}
use Rattle.fc_tree_build.proofs.spares.+nodes_above.Goals as goal

pub returns-then-subtrees-eq0-clause-value : goal.returns-then-subtrees-eq0-clause-value
returns-then-subtrees-eq0-clause-value t c d l =
    let e : c.args.subtrees ≡ 0 = omega arith in
    sym (ap (inner_above d) e ∙ above_none d)

pub returns-clause-value : goal.returns-clause-value
returns-clause-value t c d l = above_more d c.args.subtrees _ (omega arith) l c.nodes_above.ensures.value
