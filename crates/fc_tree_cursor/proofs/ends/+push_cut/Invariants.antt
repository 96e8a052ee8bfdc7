use Rattle.std.proofs.Common.{◌-◌, length}
use Rattle.fc_base.specs.Sizes.{most_levels}
use Rattle.fc_tree_cursor.proofs.ends.+push_cut.Given as goal

abbrev pub decreases-push_cut : goal.decreases-push_cut
decreases-push_cut g l = most_levels - length l.gap.now
