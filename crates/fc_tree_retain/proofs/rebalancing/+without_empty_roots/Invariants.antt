use Rattle.fc_tree_node.specs.Measures.{height_of}
use Rattle.fc_tree_retain.proofs.rebalancing.+without_empty_roots.Given as goal

abbrev pub decreases-without_empty_roots : goal.decreases-without_empty_roots
decreases-without_empty_roots g l = height_of l.root
