use Rattle.std.proofs.Common.{◌-◌, length}
use Rattle.fc_base.specs.Sizes.{most_levels}
use Rattle.fc_tree_cursor.proofs.gaps.+last_leaf_edge.Given as goal

abbrev pub decreases-last_leaf_edge : goal.decreases-last_leaf_edge
decreases-last_leaf_edge g l = most_levels - length l.gap.now
