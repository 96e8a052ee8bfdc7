-- The list after ranges were given values, one after another.
use Rattle.std.specs.Prelude.{◌≡◌, true, false, List, [], ◌∷◌, Some}
use Rattle.std.specs.Ordering.{is_lt}
use Rattle.std.specs.declared.cmp.Ordering.{Ordering}
use Rattle.std.specs.declared.ops.Range.{Range}
use Rattle.fc_intervals.specs.Put.{IsPut}
use Rattle.fc_intervals.specs.Stretches.{IsWritten}
use Rattle.fc_intervals.specs.declared.stretch.Stretch.{Stretch}

module _ {K V : Type 0} (cmp : K → K → Ordering) (same : V → V → Type 0) where
  -- The range was given the value; an empty one left all as it was.
  pub record IsGiven (range : Range K) (value : V) (old new : List (K × Stretch K V)) : Type 0 where
    pub put : is_lt (cmp range.start range.end) ≡ true → IsPut cmp same range.start range.end value old new
    pub written : IsWritten cmp same range.start range.end (Some value) old new
    pub empty : is_lt (cmp range.start range.end) ≡ false → new ≡ old

  -- Each range was given its value, in turn.
  abbrev pub AreGiven : List (Range K × V) → List (K × Stretch K V) → List (K × Stretch K V) → Type 0
  AreGiven [] old new = new ≡ old
  AreGiven (item ∷ items) old new = (between : List (K × Stretch K V)) × IsGiven item.0 item.1 old between × AreGiven items between new
