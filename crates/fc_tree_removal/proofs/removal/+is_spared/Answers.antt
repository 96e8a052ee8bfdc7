use Rattle.std.proofs.Common.{◌<◌, length, refl, subst, arith}
use Rattle.std.proofs.lemmas.Bool.{ltb-true}
use Rattle.std.specs.Prelude.{slice_range}
use Rattle.fc_base.specs.Sizes.{min_len}
use Rattle.fc_tree_node.specs.Node.{own_pairs}
use Rattle.fc_tree_removal.specs.Removal.{IsSpared}
use Rattle.fc_tree_removal.proofs.Removed.{spared_step, spared_here}
use Rattle.fc_tree_removal.proofs.removal.+is_spared.Goals as goal

pub returns-then-is_leaf : goal.returns-then-is_leaf
returns-then-is_leaf g t c told =
    let long : min_len < length (own_pairs c.args.node.now) = (let lt = ltb-true min_len c.len.result told in omega arith) in
    (spared_here c.args.path.now c.args.node.now c.if-path-eq1.true).0 (c.if-is_leaf.ensures.0 refl, long)

pub returns : goal.returns
returns g t c told =
    (spared_step c.args.path.now c.args.node.now c.if-path-eq1.false c.requires).0
    (subst (IsSpared (slice_range c.args.path.now 1 (length c.args.path.now))) c.child.ensures (c.is_spared.ensures told))
