use Rattle.std.proofs.Common.{◌≡◌, ◌+◌, ◌*◌, ◌≤◌, length}
use Rattle.std.specs.Prelude.{vec_capacity}
use Rattle.std.specs.List.{AllByRecursion}
use Rattle.fc_tree_node.specs.Node.{IsEmptyInner}
use Rattle.fc_tree_node.proofs.nodes.try_inner_nodes.Given as goal

abbrev pub invariant-loop-i : goal.invariant-loop-i
invariant-loop-i g l = (length l.nodes.items ≡ l._i) × AllByRecursion (λ b. IsEmptyInner b) l.nodes.items × (l.count ≤ vec_capacity l.nodes)
    × (l.asked.requests ≡ l.initial.asked.requests + 2 * l._i)
