-- The rows of a walk by a second key.
use Rattle.std.specs.Prelude.{◌≡◌, ◌++◌, Bool, true, List, [], ◌∷◌, IsSome}
use Rattle.std.specs.List.{AllByRecursion}
use Rattle.std.specs.Option.{option_to_list}
use Rattle.std.specs.declared.cmp.Ordering.{Ordering}
use Rattle.fc_base.specs.Parts.{at, value_at}
use Rattle.fc_index.specs.Rows.{AreByKey, has_key}

module _ {K I R : Type 0} (ids : I → I → Ordering) where
  -- The rows at the ids of a walk, with these, in the order of the walk.
  abbrev pub rows_of : List (K × I) → List (I × R) → List (I × R)
  rows_of [] rows = []
  rows_of (x ∷ walk) rows = option_to_list (at ids rows x.1) ++ rows_of walk rows

  -- A row is at each id of the walk.
  abbrev pub AreThere : List (K × I) → List (I × R) → Type 0
  AreThere walk rows = AllByRecursion (λ x. IsSome (at ids rows x.1)) walk

module _ {K I R : Type 0} (cmp : K → K → Ordering) (ids : I → I → Ordering) (key : R → K) where
  -- These are exactly the rows whose keys are chosen, each once, in the order of the keys, and of the ids where keys are equal.
  abbrev pub AreRowsByKey : (K → Bool) → List (I × R) → List (I × R) → Type 0
  AreRowsByKey chosen rows given = (walk : List (K × I)) × AreByKey cmp ids key chosen rows walk × (given ≡ rows_of ids walk rows)

  -- A row has a key that is equal to k.
  abbrev pub HasRowOf : List (I × R) → K → Type 0
  HasRowOf rows k = (i : I) × (has_key cmp key (value_at ids rows i) k ≡ true)
