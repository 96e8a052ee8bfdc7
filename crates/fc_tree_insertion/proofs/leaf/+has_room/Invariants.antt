use Rattle.std.proofs.Common.{length}
use Rattle.fc_tree_insertion.proofs.leaf.+has_room.Given as goal

abbrev pub decreases-has_room : goal.decreases-has_room
decreases-has_room g l = length l.path.now
