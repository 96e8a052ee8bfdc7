use Rattle.fc_tree_node.specs.Measures.{height_of}
use Rattle.fc_tree_split.proofs.cutting.+try_border.Given as goal

abbrev pub decreases-try_border : goal.decreases-try_border
decreases-try_border g l = height_of l.node.now
