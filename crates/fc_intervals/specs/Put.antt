-- The list after a range was given a value, and when a call on a range is not refused.
use Rattle.std.specs.Prelude.{◌≡◌, List, ◌∷◌, ◌++◌, Option, unwrap_or}
use Rattle.std.specs.Option.{option_map}
use Rattle.std.specs.declared.cmp.Ordering.{Ordering}
use Rattle.fc_base.specs.Halves.{not_below}
use Rattle.fc_base.specs.Parts.{at}
use Rattle.fc_intervals.specs.Steps.{before, IsRest, starting}
use Rattle.fc_intervals.specs.declared.stretch.Stretch.{Stretch}

-- The start of the stretch that starts at a point, which stays where it is written over, or else the point.
abbrev pub start_kept : {K V : Type 0} → (K → K → Ordering) → List (K × Stretch K V) → K → K
start_kept cmp s a = unwrap_or (option_map (λ e. e.0) (at cmp s a)) a

-- The list after a range was given a value: what starts before it, ended at its start; the new stretch; what goes on after it, as a copy; and what starts after it.
pub record IsPut {K V : Type 0} (cmp : K → K → Ordering) (same : V → V → Type 0) (from to : K) (value : V) (old new : List (K × Stretch K V)) : Type 0 where
  pub rest : Option (Stretch K V)
  pub is_rest : IsRest cmp same old to rest
  pub is : new ≡ before cmp old from ++ (start_kept cmp old from, record { end = to; value = value }) ∷ (starting to rest ++ not_below cmp old to)
