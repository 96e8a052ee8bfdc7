use Rattle.fc_tree_node.specs.Measures.{height_of}
use Rattle.fc_tree_retain.proofs.filtering.+take_last_of_underfull.Given as goal

abbrev pub decreases-take_last_of_underfull : goal.decreases-take_last_of_underfull
decreases-take_last_of_underfull g l = height_of l.node.now
