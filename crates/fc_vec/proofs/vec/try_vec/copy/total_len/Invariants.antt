use Rattle.std.proofs.Common.{◌≡◌, length, take}
use Rattle.fc_vec.specs.Joined.{joined}
use Rattle.fc_vec.proofs.vec.try_vec.copy.total_len.Given as goal

abbrev pub invariant-loop-i : goal.invariant-loop-i
invariant-loop-i g l = (l.i-end ≡ length l.parts) × (l.total ≡ length (joined (take l.i l.parts)))
