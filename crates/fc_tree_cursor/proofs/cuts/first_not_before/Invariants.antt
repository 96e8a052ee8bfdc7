use Rattle.fc_tree_node.specs.Node.{own_pairs}
use Rattle.fc_tree_cursor.specs.Cut.{lies_before, HoldsFrom}
use Rattle.fc_tree_cursor.proofs.cuts.first_not_before.Given as goal

-- So far each key is before the cut.
abbrev pub invariant-loop-i : goal.invariant-loop-i
invariant-loop-i g l = HoldsFrom (λ e. lies_before l.takes_equal (g.Q.Query.order e.0 (g.Q.Query.sought l.key))) (own_pairs l.node) l.from l.i
