-- A hashed set as contracts see it, and what its calls leave of it.
use Rattle.std.specs.Prelude.{◌≡◌, ℕ, Bool, List, ◌∷◌, Option, MatchOption}
use Rattle.std.specs.List.{find, IsDistinct}
use Rattle.std.specs.List.Sorted.{IsPermutation}
use Rattle.std.specs.Set.{swap_key}

-- The items, in an order that is left open, and how many insertions there is room for before the next request for memory.
pub record HashedSet (T : Type 0) : Type 0 where
  pub items : List T
  pub spare : ℕ

module _ {T : Type 0} (eq : T → T → Bool) where
  -- No two items are equal.
  abbrev pub IsSet : List T → Type 0
  IsSet ts = IsDistinct eq ts

  -- The item that is equal to this one.
  abbrev pub item_at : T → List T → Option T
  item_at t ts = find (eq t) ts

  -- The item t put in the place of `old`, or beside the others.
  abbrev pub IsReplaced : T → Option T → List T → List T → Type 0
  IsReplaced t old ts us = MatchOption old (IsPermutation (t ∷ ts) us) (λ _. us ≡ swap_key (eq t) ts t)
