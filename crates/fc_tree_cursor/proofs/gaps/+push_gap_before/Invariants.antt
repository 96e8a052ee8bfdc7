use Rattle.std.proofs.Common.{length}
use Rattle.fc_tree_cursor.proofs.gaps.+push_gap_before.Given as goal

abbrev pub decreases-push_gap_before : goal.decreases-push_gap_before
decreases-push_gap_before g l = length l.place.now
