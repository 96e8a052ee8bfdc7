use Rattle.std.proofs.Common.{◌≡◌, ◌≤◌, length, take}
use Rattle.std.specs.Prelude.{vec_capacity}
use Rattle.fc_vec.specs.Joined.{joined}
use Rattle.fc_vec.specs.Vectors.{IsExtended}
use Rattle.fc_vec.proofs.vec.try_vec.copy.push_parts.Given as goal

abbrev pub invariant-loop-i : goal.invariant-loop-i
invariant-loop-i g l = (l.i-end ≡ length l.parts) × (vec_capacity l.initial.made ≤ vec_capacity l.made)
    × IsExtended g.T.TryClone.same l.initial.made.items (joined (take l.i l.parts)) l.made.items
