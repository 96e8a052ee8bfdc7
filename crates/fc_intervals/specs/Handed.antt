-- Stretches that come out of a range that is cut out, and are handed to a closure one after another.
use Rattle.std.specs.Prelude.{◌≡◌, true, List, [], ◌∷◌, ◌++◌, Option, Some}
use Rattle.std.specs.Fn.{Mut, Called}
use Rattle.std.specs.Ordering.{is_lt}
use Rattle.std.specs.declared.cmp.Ordering.{Ordering}
use Rattle.std.specs.declared.ops.Range.{Range}
use Rattle.fc_base.specs.declared.try_reserve_error.TryReserveError.{TryReserveError}
use Rattle.fc_base.specs.Halves.{not_below}
use Rattle.fc_base.specs.Parts.{below}
use Rattle.fc_laws.specs.Words.{last_item}
use Rattle.fc_intervals.specs.Steps.{before, IsRest, starting}
use Rattle.fc_intervals.specs.declared.stretch.Stretch.{Stretch}

module _ {K V : Type 0} (cmp : K → K → Ordering) where
  -- What comes out of a range: what goes on after its start, as a copy, and the stretches that start in it, each up to the range's end.
  pub record IsCutOut (same : V → V → Type 0) (from to : K) (s out : List (K × Stretch K V)) : Type 0 where
    pub rest : Option (Stretch K V)
    pub is_rest : IsRest cmp same s from rest
    pub is : out ≡ before cmp (starting from rest ++ not_below cmp s from) to

  -- Where a stretch goes on across a point, a copy of its value may be refused.
  abbrev pub MayRefuseCopy : (V → TryReserveError → Type 0) → List (K × Stretch K V) → K → TryReserveError → Type 0
  MayRefuseCopy may_refuse s a e = (y : K × Stretch K V) × (last_item (below cmp s a) ≡ Some y) × (is_lt (cmp a y.1.end) ≡ true) × may_refuse y.1.value e

-- A call of f with the range and the value of the stretch may leave f'.
abbrev pub GivenStretch : {F K V : Type 0} → Mut F (Range K × (V × Unit {0})) (Unit {0}) → F → K × Stretch K V → F → Type 0
GivenStretch g f e f' = Called g f (record { start = e.0; end = e.1.end }, (e.1.value, tt)) tt f'

-- Calls by R with these stretches in turn took f to f'.
abbrev pub HandsInTurn : {F E : Type 0} → (F → E → F → Type 0) → F → List E → F → Type 0
HandsInTurn R f [] f' = f' ≡ f
HandsInTurn {F} R f (e ∷ es) f' = (g : F) × R f e g × HandsInTurn R g es f'
