-- How long a list of stretches gets by a call on a range, and by which errors the call may be refused.
use Rattle.std.specs.Prelude.{◌≡◌, ◌⊎◌, ℕ, ◌+◌, ◌<◌, ◌^◌, Bool, true, false, cond, List, length, Option, Some, None, is_some}
use Rattle.std.specs.Ordering.{is_lt}
use Rattle.std.specs.declared.cmp.Ordering.{Ordering}
use Rattle.fc_base.specs.declared.try_reserve_error.TryReserveError.{TryReserveError}
use Rattle.fc_base.specs.Growth.{MayGrowRefuse}
use Rattle.fc_base.specs.Parts.{at, below}
use Rattle.fc_laws.specs.Words.{last_item}
use Rattle.fc_intervals.specs.declared.stretch.Stretch.{Stretch}

module _ {K V : Type 0} (cmp : K → K → Ordering) where
  -- Whether there is a stretch, and it ends after the point.
  abbrev pub ends_after : K → Option (K × Stretch K V) → Bool
  ends_after b None = false
  ends_after b (Some y) = is_lt (cmp b y.1.end)

  module _ (s : List (K × Stretch K V)) where
    -- Whether a stretch starts at the point.
    abbrev pub starts_at : K → Bool
    starts_at a = is_some (at cmp s a)

    -- Whether a stretch goes on across the point: the last that starts before it ends after it.
    abbrev pub goes_across : K → Bool
    goes_across b = ends_after b (last_item (below cmp s b))

    -- How many stretches there are once what goes on after a point, if something does, is one of its own.
    abbrev pub parted_length : K → ℕ
    parted_length b = length s + cond (goes_across b) 1 0

    -- How many there are once a range from a to b is put in too, before those that lie within it are dropped: one more, unless one starts at a.
    abbrev pub put_length : K → K → ℕ
    put_length a b = parted_length b + cond (starts_at a) 0 1

    -- A stretch that is put at a point may be refused where none starts there: as one more than n, which is a usize.
    abbrev pub MayRefuseAt : K → ℕ → TryReserveError → Type 0
    MayRefuseAt a n e = (starts_at a ≡ false) × (n < 2 ^ 64) × MayGrowRefuse n e

module _ {K V : Type 0} (cmp : K → K → Ordering) (may_refuse : V → TryReserveError → Type 0) (s : List (K × Stretch K V)) where
  -- Where a stretch goes on across a point, what goes on after it may be refused: a copy of the value, or one stretch more.
  abbrev pub MayRefuseRest : K → TryReserveError → Type 0
  MayRefuseRest b e = (y : K × Stretch K V) × (last_item (below cmp s b) ≡ Some y) × (is_lt (cmp b y.1.end) ≡ true)
      × (may_refuse y.1.value e ⊎ MayGrowRefuse (length s) e)

  -- A put over a range may be refused what goes on after it, or else its own stretch, by the length with the other.
  abbrev pub MayRefusePut : K → K → TryReserveError → Type 0
  MayRefusePut a b e = MayRefuseRest b e ⊎ MayRefuseAt cmp s a (parted_length cmp s b) e
