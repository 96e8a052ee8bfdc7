use Rattle.std.proofs.Common.{◌-◌, length}
use Rattle.fc_tree_cursor.proofs.run.+last_leaf_edge_at.Given as goal

abbrev pub decreases-last_leaf_edge_at : goal.decreases-last_leaf_edge_at
decreases-last_leaf_edge_at g l = length l.gap.now - l.level
