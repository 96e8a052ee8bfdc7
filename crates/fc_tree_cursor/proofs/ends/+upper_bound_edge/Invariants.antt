use Rattle.std.proofs.Common.{◌-◌, length}
use Rattle.fc_base.specs.Sizes.{most_levels}
use Rattle.fc_tree_cursor.proofs.ends.+upper_bound_edge.Given as goal

abbrev pub decreases-upper_bound_edge : goal.decreases-upper_bound_edge
decreases-upper_bound_edge g l = most_levels - length l.gap.now
