use Rattle.std.proofs.Common.{length, ◌-◌}
use Rattle.fc_base.specs.Sizes.{most_levels}
use Rattle.fc_tree_drain.proofs.owned.+open_first.Given as goal

abbrev pub decreases-open_first : goal.decreases-open_first
decreases-open_first g l = most_levels - length l.stack.now
