use Rattle.std.proofs.Common.{◌≡◌, ◌++◌, List}
use Rattle.std.specs.List.{FoldsTo}
use Rattle.std.specs.Prelude.{◌+◌, vec_len, vec_capacity}
use Rattle.fc_vec.proofs.vec.fallible_vec.push_results.Given as goal

abbrev pub invariant-loop-i : goal.invariant-loop-i
invariant-loop-i g l = goal.F-IsAlwaysCallable g l.f × (vec_len l.v ≡ vec_len l.initial.v + l.i) × (vec_capacity l.v ≡ vec_capacity l.initial.v)
    × ((given : List _) × (l.v.items ≡ l.initial.v.items ++ given) × FoldsTo (goal.F-step g) l.initial.f given l.f)
