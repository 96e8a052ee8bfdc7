-- Items that rise, and where they stand beside the pairs with which they are merged.
use Rattle.std.specs.Prelude.{◌≡◌, Bool, true, false, List, [], ◌∷◌, ◌++◌, Option, None, Some}
use Rattle.std.specs.List.{AllByRecursion}
use Rattle.std.specs.Ordering.{is_gt}
use Rattle.std.specs.declared.cmp.Ordering.{Ordering}
use Rattle.std.specs.declared.cmp.Ordering.TheVariants.{Equal, Greater}

module _ {K V : Type 0} where
  -- The list is empty, or its first key is not below this one.
  abbrev pub IsNotBelow : (K → K → Ordering) → K → List (K × V) → Type 0
  IsNotBelow cmp key [] = Unit {0}
  IsNotBelow cmp key (e ∷ s) = is_gt (cmp key e.0) ≡ false

  -- No key is greater than the next.
  abbrev pub IsRising : (K → K → Ordering) → List (K × V) → Type 0
  IsRising cmp [] = Unit {0}
  IsRising cmp (e ∷ s) = IsNotBelow cmp e.0 s × IsRising cmp s

  -- Two lists, with the pair that is held between them, if there is one.
  abbrev pub with_held : List (K × V) → Option (K × V) → List (K × V) → List (K × V)
  with_held front None back = front ++ back
  with_held front (Some held) back = front ++ held ∷ back

  -- The pair that is held, if there is one, has no greater key than this; else there is no pair before.
  abbrev pub IsHeldAfter : (K → K → Ordering) → List (K × V) → Option (K × V) → K → Type 0
  IsHeldAfter cmp front None key = front ≡ []
  IsHeldAfter cmp front (Some held) key = is_gt (cmp held.0 key) ≡ false

  -- The first pair has an equal key, or all have greater ones.
  abbrev pub IsStoppedAt : (K → K → Ordering) → List (K × V) → K → Bool → Type 0
  IsStoppedAt cmp s key true = (first : K × V) × (rest : List (K × V)) × (s ≡ first ∷ rest) × (cmp first.0 key ≡ Equal)
  IsStoppedAt cmp s key false = AllByRecursion (λ e. cmp e.0 key ≡ Greater) s
