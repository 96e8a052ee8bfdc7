use Rattle.std.proofs.Common.{◌-◌, length}
use Rattle.fc_base.specs.Sizes.{most_levels}
use Rattle.fc_tree_cursor.proofs.ends.+push_both.Given as goal

abbrev pub decreases-push_both : goal.decreases-push_both
decreases-push_both g l = most_levels - length l.front.now
