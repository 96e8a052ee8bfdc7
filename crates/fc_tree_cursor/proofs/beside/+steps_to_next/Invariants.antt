use Rattle.std.proofs.Common.{length}
use Rattle.fc_tree_cursor.proofs.beside.+steps_to_next.Given as goal

abbrev pub decreases-steps_to_next : goal.decreases-steps_to_next
decreases-steps_to_next g l = length l.gap.now
