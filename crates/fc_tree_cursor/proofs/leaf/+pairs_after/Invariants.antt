use Rattle.std.proofs.Common.{length}
use Rattle.fc_tree_cursor.proofs.leaf.+pairs_after.Given as goal

abbrev pub decreases-pairs_after : goal.decreases-pairs_after
decreases-pairs_after g l = length l.gap.now
