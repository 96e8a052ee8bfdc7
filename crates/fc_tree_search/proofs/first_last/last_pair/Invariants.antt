use Rattle.fc_tree_search.proofs.EndFacts.{IsLast}
use Rattle.fc_tree_node.specs.Measures.{nodes_of}
use Rattle.fc_tree_search.proofs.first_last.last_pair.Given as goal

abbrev pub invariant-down : goal.invariant-down
invariant-down g l = IsLast l.root l.node

abbrev pub decreases-down : goal.decreases-down
decreases-down g l = nodes_of l.node
