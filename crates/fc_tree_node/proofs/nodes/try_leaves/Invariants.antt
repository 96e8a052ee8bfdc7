use Rattle.std.proofs.Common.{◌≡◌, ◌+◌, ◌*◌, ◌≤◌, length}
use Rattle.std.specs.Prelude.{vec_capacity}
use Rattle.std.specs.List.{AllByRecursion}
use Rattle.fc_tree_node.specs.Node.{IsEmptyLeaf}
use Rattle.fc_tree_node.proofs.nodes.try_leaves.Given as goal

abbrev pub invariant-loop-i : goal.invariant-loop-i
invariant-loop-i g l = (length l.leaves.items ≡ l._i) × AllByRecursion (λ b. IsEmptyLeaf b) l.leaves.items × (l.count ≤ vec_capacity l.leaves)
    × (l.asked.requests ≡ l.initial.asked.requests + 1 * l._i)
