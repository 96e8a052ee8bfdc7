-- Nodes taken ahead for several insertions.
use Rattle.std.specs.Prelude.{ℕ, ◌+◌, ◌*◌, ◌-◌, ◌^◌, ◌<◌, ◌≤◌, nat_le, ◌&&◌, if◌then◌else◌}
use Rattle.fc_base.specs.Sizes.{least_children, most_levels}
use Rattle.fc_base.specs.declared.try_reserve_error.TryReserveError.{TryReserveError}
use Rattle.fc_base.specs.declared.try_reserve_error.TryReserveError.TheVariants.{CapacityOverflow, AllocError}

-- What contracts see of a reservation: how many insertions are left, each into a map of fewer pairs than these.
pub record Places : Type 0 where
  pub places : ℕ
  pub pairs : ℕ

-- A tree of at most n pairs has fewer levels below its root than so many.
abbrev pub IsOverDepth : ℕ → ℕ → Type 0
IsOverDepth levels n = n < 2 * least_children ^ levels

-- The fewest such, but at least one.
abbrev pub IsFewestOver : ℕ → ℕ → Type 0
IsFewestOver levels n = (1 ≤ levels) × IsOverDepth levels n × (1 < levels → 2 * least_children ^ (levels - 1) ≤ n)

-- The one error by which a reservation of n insertions into m pairs may be refused: either the pairs that are then there, or a node for each
-- insertion at each level of the highest tree, can't be counted.
abbrev pub reservation_error : ℕ → ℕ → TryReserveError
reservation_error m n = if nat_le (m + n) (2 ^ 64 - 1) && nat_le (most_levels * n) (2 ^ 64 - 1) then AllocError else CapacityOverflow
