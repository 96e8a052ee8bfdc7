use Rattle.std.proofs.Common.{length}
use Rattle.fc_tree_build.proofs.spine.+attach.Given as goal

abbrev pub decreases-attach : goal.decreases-attach
decreases-attach g l = length l.spine.now
