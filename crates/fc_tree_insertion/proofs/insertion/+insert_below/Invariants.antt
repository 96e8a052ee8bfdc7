use Rattle.std.proofs.Common.{length}
use Rattle.fc_tree_insertion.proofs.insertion.+insert_below.Given as goal

abbrev pub decreases-insert_below : goal.decreases-insert_below
decreases-insert_below g l = length l.path.now
