use Rattle.std.proofs.Common.{◌≡◌, replicate, take}
use Rattle.std.specs.Prelude.{◌+◌, vec_len, vec_capacity}
use Rattle.fc_vec.specs.Vectors.{IsExtended}
use Rattle.fc_vec.proofs.vec.copies.push_repeated.Given as goal

abbrev pub invariant-loop-i : goal.invariant-loop-i
invariant-loop-i g l = (vec_len l.v ≡ vec_len l.initial.v + l.i) × (vec_capacity l.v ≡ vec_capacity l.initial.v)
    × IsExtended g.T.TryClone.same l.initial.v.items (take l.i (replicate l.count l.source)) l.v.items
