use Rattle.std.proofs.Common.{length}
use Rattle.fc_tree_node.specs.Node.{pairs_of}
use Rattle.fc_tree_removal.proofs.first_last.+remove_last.Given as goal

abbrev pub decreases-remove_last : goal.decreases-remove_last
decreases-remove_last g l = length (pairs_of l.node.now)
