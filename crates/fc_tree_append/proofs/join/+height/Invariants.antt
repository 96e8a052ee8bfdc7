use Rattle.fc_tree_node.specs.Measures.{height_of}
use Rattle.fc_tree_append.proofs.join.+height.Given as goal

abbrev pub decreases-height : goal.decreases-height
decreases-height g l = height_of l.node.now
