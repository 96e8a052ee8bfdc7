use Rattle.std.proofs.Common.{length, ◌-◌}
use Rattle.fc_base.specs.Sizes.{most_levels}
use Rattle.fc_tree_drain.proofs.owned.+open_last.Given as goal

abbrev pub decreases-open_last : goal.decreases-open_last
decreases-open_last g l = most_levels - length l.stack.now
