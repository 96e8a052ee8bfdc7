use Rattle.fc_tree_node.specs.Measures.{height_of}
use Rattle.fc_tree_retain.proofs.rebalancing.+rebalance_seam.Given as goal

abbrev pub decreases-rebalance_seam : goal.decreases-rebalance_seam
decreases-rebalance_seam g l = height_of l.node.now
