use Rattle.fc_tree_node.specs.Measures.{height_of}
use Rattle.fc_tree_split.proofs.rebalancing.+rebalance.Given as goal

abbrev pub decreases-rebalance : goal.decreases-rebalance
decreases-rebalance g l = height_of l.root
