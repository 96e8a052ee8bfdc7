-- The refusal of a growth.
use Rattle.std.specs.Prelude.{◌≡◌, ℕ, ◌+◌, ◌-◌, ◌^◌, ◌==◌, ◌<◌, ◌≤◌, ◌⊎◌, nat_le, if◌then◌else◌}
use Rattle.fc_base.specs.Sizes.{capacity}
use Rattle.fc_base.specs.declared.try_reserve_error.TryReserveError.{TryReserveError}
use Rattle.fc_base.specs.declared.try_reserve_error.TryReserveError.TheVariants.{CapacityOverflow, AllocError}

-- The one error by which a list of n items may refuse one item more.
abbrev pub growth_error : ℕ → TryReserveError
growth_error n = if n == 2 ^ 64 - 1 then CapacityOverflow else AllocError

-- An ordered list of n items may refuse a new one only where there is none yet, or where there are enough to fill a leaf.
abbrev pub MayGrowRefuse : ℕ → TryReserveError → Type 0
MayGrowRefuse n e = (e ≡ growth_error n) × ((n ≡ 0) ⊎ (capacity ≤ n))

-- The one error by which an append of n items to m may be refused.
abbrev pub append_error : ℕ → ℕ → TryReserveError
append_error m n = if nat_le (m + n) (2 ^ 64 - 1) then AllocError else CapacityOverflow

-- An append of n items to m may be refused only where there are some on either side.
abbrev pub MayAppendRefuse : ℕ → ℕ → TryReserveError → Type 0
MayAppendRefuse m n e = (e ≡ append_error m n) × (0 < m) × (0 < n)
