use Rattle.std.proofs.Common.{◌≡◌, ℕ, ◌+◌, List}
use Rattle.std.specs.Prelude.{option_copied}
use Rattle.fc_tree_node.specs.Path.{before_gap}
use Rattle.fc_tree_search.specs.Neighbours.{last_item}
use Rattle.fc_tree_search.specs.Passed.{passed}
use Rattle.fc_tree_search.proofs.SearchFacts.{IsOnWay}
use Rattle.fc_tree_node.specs.Measures.{nodes_of}
use Rattle.fc_tree_search.proofs.neighbours.upper_bound.Given as goal

abbrev pub invariant-down : goal.invariant-down
invariant-down g l = ((path : List ℕ) × IsOnWay g.Q.Query.order (g.Q.Query.sought l.key) l.root l.node path
    × (option_copied l.last ≡ last_item (before_gap path l.root))) × (l.count.comparisons + passed g.Q.Query.order (g.Q.Query.sought l.key) l.node
    ≡ l.initial.count.comparisons + passed g.Q.Query.order (g.Q.Query.sought l.key) l.root) × (l.count.moves ≡ l.initial.count.moves)

abbrev pub decreases-down : goal.decreases-down
decreases-down g l = nodes_of l.node
