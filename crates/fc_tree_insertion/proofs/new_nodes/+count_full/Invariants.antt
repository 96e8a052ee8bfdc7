use Rattle.std.proofs.Common.{length}
use Rattle.fc_tree_insertion.proofs.new_nodes.+count_full.Given as goal

abbrev pub decreases-count_full : goal.decreases-count_full
decreases-count_full g l = length l.path.now
