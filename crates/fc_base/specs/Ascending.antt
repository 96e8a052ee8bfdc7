-- Ascending lists of pairs, by a comparison of keys.
use Rattle.std.specs.Prelude.{◌≡◌, List, [], ◌∷◌}
use Rattle.std.specs.List.{AllByRecursion}
use Rattle.std.specs.declared.cmp.Ordering.{Ordering}
use Rattle.std.specs.declared.cmp.Ordering.TheVariants.{Less}

module _ {K V : Type 0} (cmp : K → K → Ordering) where
  -- Each key is below all keys that follow.
  abbrev pub IsAscending : List (K × V) → Type 0
  IsAscending [] = Unit {0}
  IsAscending (e ∷ es) = AllByRecursion (λ later. cmp e.0 later.0 ≡ Less) es × IsAscending es
