use Rattle.std.proofs.Common.{◌-◌, length}
use Rattle.fc_tree_cursor.proofs.leaf.+go_down.Given as goal

abbrev pub decreases-go_down : goal.decreases-go_down
decreases-go_down g l = length l.gap.now - l.level
