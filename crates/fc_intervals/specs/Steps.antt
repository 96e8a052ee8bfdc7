-- What the steps of a call make of a list of stretches.
use Rattle.std.specs.Prelude.{◌≡◌, Bool, true, false, cond, List, [], ◌∷◌, ◌++◌, Option, None, Some, map}
use Rattle.std.specs.Ordering.{is_lt}
use Rattle.std.specs.declared.cmp.Ordering.{Ordering}
use Rattle.std.specs.declared.ops.Range.{Range}
use Rattle.fc_base.specs.Halves.{not_below}
use Rattle.fc_base.specs.OneKey.{cut}
use Rattle.fc_base.specs.Parts.{below}
use Rattle.fc_laws.specs.Words.{last_item}
use Rattle.fc_intervals.specs.declared.stretch.Stretch.{Stretch}

module _ {K V : Type 0} (cmp : K → K → Ordering) where
  -- The stretch, which ends at the point where it went on after it.
  abbrev pub ended : K → K × Stretch K V → K × Stretch K V
  ended a e = (e.0, record { end = cond (is_lt (cmp a e.1.end)) a e.1.end; value = e.1.value })

  -- The stretches that start before a point, and end there at the latest.
  abbrev pub before : List (K × Stretch K V) → K → List (K × Stretch K V)
  before s a = map (ended a) (below cmp s a)

  -- The last stretch that starts before a point ends there or before.
  abbrev pub EndsBy : K → Option (K × Stretch K V) → Type 0
  EndsBy b None = Unit {0}
  EndsBy b (Some y) = is_lt (cmp b y.1.end) ≡ false

  -- What goes on after a point, where the last stretch that starts before it does: its end, and a copy of its value.
  abbrev pub IsRest : (V → V → Type 0) → List (K × Stretch K V) → K → Option (Stretch K V) → Type 0
  IsRest same s b None = EndsBy b (last_item (below cmp s b))
  IsRest same s b (Some r) = (y : K × Stretch K V) × (last_item (below cmp s b) ≡ Some y) × (is_lt (cmp b y.1.end) ≡ true) × (r.end ≡ y.1.end) × same y.1.value r.value

-- The stretch that starts at a point, if there is one.
abbrev pub starting : {K V : Type 0} → K → Option (Stretch K V) → List (K × Stretch K V)
starting b None = []
starting b (Some r) = (b, r) ∷ []

-- What goes on after a point starts there too, as a copy, where something does. A cut there takes it out again.
pub record IsParted {K V : Type 0} (cmp : K → K → Ordering) (same : V → V → Type 0) (at : K) (is_parted : Bool) (old new : List (K × Stretch K V)) : Type 0 where
  pub rest : Option (Stretch K V)
  pub is_rest : IsRest cmp same old at rest
  pub is : new ≡ below cmp old at ++ (starting at rest ++ not_below cmp old at)
  pub undone : cond is_parted (cut cmp new at) new ≡ old

-- The list after a range was cut out: what starts before it, what goes on after it, as a copy, and what starts after it.
pub record IsCut {K V : Type 0} (cmp : K → K → Ordering) (same : V → V → Type 0) (from to : K) (old new : List (K × Stretch K V)) : Type 0 where
  pub rest : Option (Stretch K V)
  pub is_rest : IsRest cmp same old to rest
  pub is : new ≡ before cmp old from ++ (starting to rest ++ not_below cmp old to)

-- The range before others, if it is not empty.
abbrev pub with_range : {K : Type 0} → (K → K → Ordering) → K → K → List (Range K) → List (Range K)
with_range cmp from to more = cond (is_lt (cmp from to)) ((record { start = from; end = to }) ∷ more) more

-- The ranges from a point up to another that stretches between them do not cover.
abbrev pub uncovered : {K V : Type 0} → (K → K → Ordering) → K → K → List (K × Stretch K V) → List (Range K)
uncovered cmp from to [] = with_range cmp from to []
uncovered cmp from to (e ∷ s) = with_range cmp from e.0 (uncovered cmp e.1.end to s)
