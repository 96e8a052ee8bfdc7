use Rattle.fc_tree_node.specs.Measures.{height_of}
use Rattle.fc_tree_split.proofs.rebalancing.+rebalance_below.Given as goal

abbrev pub decreases-rebalance_below : goal.decreases-rebalance_below
decreases-rebalance_below g l = height_of l.node.now
