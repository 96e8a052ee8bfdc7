use Rattle.std.proofs.Common.{◌≡◌, length}
use Rattle.std.specs.Prelude.{take}
use Rattle.fc_tree_drain.specs.Opened.{before_back}
use Rattle.fc_tree_build.specs.Spine.{IsLastPair}
use Rattle.fc_tree_build.proofs.spine.last_of.Given as goal

abbrev pub invariant-loop-i : goal.invariant-loop-i
invariant-loop-i g l = (l.i-end ≡ length l.spine) × IsLastPair (before_back (take l.i l.spine)) l.last
