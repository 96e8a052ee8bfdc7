use Rattle.std.proofs.Common.{◌-◌, length}
use Rattle.fc_tree_cursor.proofs.run.+first_leaf_edge_at.Given as goal

abbrev pub decreases-first_leaf_edge_at : goal.decreases-first_leaf_edge_at
decreases-first_leaf_edge_at g l = length l.gap.now - l.level
