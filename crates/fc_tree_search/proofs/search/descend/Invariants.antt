use Rattle.std.proofs.Common.{◌≡◌, ◌+◌, ◌-◌, ◌++◌, length}
use Rattle.fc_base.specs.Sizes.{most_levels}
use Rattle.fc_tree_search.specs.Passed.{passed}
use Rattle.fc_tree_search.specs.Way.{path_to}
use Rattle.fc_tree_search.proofs.SearchFacts.{IsOnWay}
use Rattle.fc_tree_search.proofs.search.descend.Given as goal

abbrev pub invariant-down : goal.invariant-down
invariant-down g l = IsOnWay g.Q.Query.order (g.Q.Query.sought l.key) l.root l.node l.path
    × (l.count.comparisons + passed g.Q.Query.order (g.Q.Query.sought l.key) l.node
    ≡ l.initial.count.comparisons + passed g.Q.Query.order (g.Q.Query.sought l.key) l.root) × (l.count.moves ≡ l.initial.count.moves)
    × (path_to g.Q.Query.order (g.Q.Query.sought l.key) l.root ≡ l.path ++ path_to g.Q.Query.order (g.Q.Query.sought l.key) l.node)

abbrev pub decreases-down : goal.decreases-down
decreases-down g l = most_levels - length l.path
