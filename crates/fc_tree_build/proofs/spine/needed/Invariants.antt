use Rattle.std.proofs.Common.{◌≡◌, ◌+◌, ◌≤◌, length}
use Rattle.std.specs.Prelude.{take}
use Rattle.fc_tree_build.specs.Spares.{needed}
use Rattle.fc_tree_build.proofs.spine.needed.Given as goal

abbrev pub invariant-loop-i : goal.invariant-loop-i
invariant-loop-i g l = (l.i-end ≡ length l.spine) × (l.count ≡ needed (take l.i l.spine)) × (l.count ≤ l.i + 1)
