use Rattle.std.proofs.Common.{length}
use Rattle.fc_tree_build.proofs.spine.+close.Given as goal

abbrev pub decreases-close : goal.decreases-close
decreases-close g l = length l.spine.now
