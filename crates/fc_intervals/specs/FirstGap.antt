-- The first part of a range that is free and long enough, where points are numbers.
use Rattle.std.specs.Prelude.{◌≡◌, ℕ, ◌+◌, ◌<◌, ◌≤◌, List, None}
use Rattle.std.specs.Ordering.{nat_cmp}
use Rattle.fc_intervals.specs.Stretches.{value_at_point}
use Rattle.fc_intervals.specs.declared.stretch.Stretch.{Stretch}

-- So many points from a start on lie in the range, and none of them has a value.
pub record IsRoom {V : Type 0} (s : List (ℕ × Stretch ℕ V)) (from to len start : ℕ) : Type 0 where
  pub begins : from ≤ start
  pub ends : start + len ≤ to
  pub free : (p : ℕ) → start ≤ p → p < start + len → value_at_point nat_cmp s p ≡ None

-- And no such start is smaller.
pub record IsFirstRoom {V : Type 0} (s : List (ℕ × Stretch ℕ V)) (from to len start : ℕ) : Type 0 where
  pub room : IsRoom s from to len start
  pub least : (other : ℕ) → IsRoom s from to len other → start ≤ other
