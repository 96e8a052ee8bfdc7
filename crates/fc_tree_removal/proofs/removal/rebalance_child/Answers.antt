use Rattle.std.proofs.Common.{length, ap, arith}
use Rattle.fc_tree_node.specs.Node.{own_pairs}
use Rattle.fc_tree_removal.proofs.Rebalanced.{whole_levels}
use Rattle.fc_tree_removal.proofs.removal.rebalance_child.Goals as goal

pub returns-then-len-ge-MIN_LEN-clause-levels : goal.returns-then-len-ge-MIN_LEN-clause-levels
returns-then-len-ge-MIN_LEN-clause-levels g c h s =
    let a = ap (λ n. length (own_pairs n)) c.child.ensures in
    whole_levels h c.args.node.now c.args.index s (omega arith)

pub returns-then-len-ge-MIN_LEN-clause-least : goal.returns-then-len-ge-MIN_LEN-clause-least
returns-then-len-ge-MIN_LEN-clause-least g c short =
    let a = ap (λ n. length (own_pairs n)) c.child.ensures in
    absurd (omega arith)
