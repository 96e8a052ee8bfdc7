use Rattle.fc_tree_node.specs.Measures.{height_of}
use Rattle.fc_tree_retain.proofs.filtering.+take_last_of_unbalanced.Given as goal

abbrev pub decreases-take_last_of_unbalanced : goal.decreases-take_last_of_unbalanced
decreases-take_last_of_unbalanced g l = height_of l.node.now
