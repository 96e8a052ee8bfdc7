use Rattle.std.proofs.Common.{◌≡◌, length, take}
use Rattle.std.specs.Prelude.{◌+◌, vec_len, vec_capacity}
use Rattle.fc_base.specs.CopiedLists.{IsExtended}
use Rattle.fc_base.proofs.try_clone.TryClone.try_clone_all.Given as goal

abbrev pub invariant-loop-i : goal.invariant-loop-i
invariant-loop-i g l =
    (l.i-end ≡ length l.sources) × (vec_len l.copies ≡ vec_len l.initial.copies + l.i) × (vec_capacity l.copies ≡ vec_capacity l.initial.copies)
    × IsExtended g.Self.TryClone.same l.initial.copies.items (take l.i l.sources) l.copies.items
