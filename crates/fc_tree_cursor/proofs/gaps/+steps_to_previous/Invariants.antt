use Rattle.std.proofs.Common.{length}
use Rattle.fc_tree_cursor.proofs.gaps.+steps_to_previous.Given as goal

abbrev pub decreases-steps_to_previous : goal.decreases-steps_to_previous
decreases-steps_to_previous g l = length l.gap.now
