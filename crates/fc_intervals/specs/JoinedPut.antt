-- A stretch that was put, and is one with the neighbours that it touches and that hold equal values.
use Rattle.std.specs.Prelude.{◌≡◌, Bool, true, List, Some}
use Rattle.std.specs.declared.cmp.Ordering.{Ordering}
use Rattle.fc_intervals.specs.Joined.{NoneJoint}
use Rattle.fc_intervals.specs.Stretches.{IsKept, IsWritten, value_at_point}
use Rattle.fc_intervals.specs.declared.stretch.Stretch.{Stretch}

-- Each point has what a put of the range gives it, or an equal value; and no two stretches that touch at an end of the range hold equal values.
pub record IsPutJoined {K V : Type 0} (cmp : K → K → Ordering) (same : V → V → Type 0) (eq : V → V → Bool) (from to : K) (value : V)
    (old new : List (K × Stretch K V)) : Type 0 where
  pub put : List (K × Stretch K V)
  pub written : IsWritten cmp same from to (Some value) old put
  pub values : (p : K) → IsKept (λ x y. eq y x ≡ true) (value_at_point cmp put p) (value_at_point cmp new p)
  pub start : NoneJoint cmp eq from new
  pub end : NoneJoint cmp eq to new
