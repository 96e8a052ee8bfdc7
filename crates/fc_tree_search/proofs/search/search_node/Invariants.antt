use Rattle.std.proofs.Common.{◌≡◌, ◌+◌, take}
use Rattle.fc_tree_node.specs.Node.{own_pairs}
use Rattle.fc_tree_search.specs.Found.{AllBelow}
use Rattle.fc_tree_search.proofs.search.search_node.Given as goal

abbrev pub invariant-loop-i : goal.invariant-loop-i
invariant-loop-i g l = AllBelow g.Q.Query.order (g.Q.Query.sought l.key) (take l.i (own_pairs l.node))
    × (l.count.comparisons ≡ l.initial.count.comparisons + l.i) × (l.count.moves ≡ l.initial.count.moves)
