-- A hashed map as contracts see it, and what its calls leave of it.
use Rattle.std.specs.Prelude.{◌≡◌, ℕ, Bool, true, ◌&&◌, List, ◌∷◌, Option, None, MatchOption}
use Rattle.std.specs.List.{AllZip, IsDistinct, list_all}
use Rattle.std.specs.Option.{option_eq}
use Rattle.std.specs.List.Sorted.{IsPermutation}
use Rattle.std.specs.Map.{keys_of, lookup}

-- The pairs, in an order that is left open, and how many insertions there is room for before the next request for memory.
pub record Hashed (K V : Type 0) : Type 0 where
  pub pairs : List (K × V)
  pub spare : ℕ

module _ {K V : Type 0} (eq : K → K → Bool) where
  -- No two keys are equal.
  abbrev pub IsMap : List (K × V) → Type 0
  IsMap ps = IsDistinct eq (keys_of ps)

  -- The value at the key that is equal to this one.
  abbrev pub value_at : K → List (K × V) → Option V
  value_at k ps = lookup (eq k) ps

  -- The pairs are, in some order, the others and this one, whose key is equal to k.
  abbrev pub IsAmongOthers : K → K → V → List (K × V) → List (K × V) → Type 0
  IsAmongOthers k key w others ps = (eq k key ≡ true) × IsPermutation ((key, w) ∷ others) ps

  -- The value v put at k, where `old` was: a pair more, or another value beside the key that was there.
  abbrev pub IsPut : K → V → Option V → List (K × V) → List (K × V) → Type 0
  IsPut k v old ps qs = MatchOption old ((value_at k ps ≡ None) × IsPermutation ((k, v) ∷ ps) qs)
      (λ w. (key : K) × (others : List (K × V)) × IsAmongOthers k key w others ps × IsAmongOthers k key v others qs)

  -- The pair at k taken out, whose value `old` was, if it was there.
  abbrev pub IsTaken : K → Option V → List (K × V) → List (K × V) → Type 0
  IsTaken k old ps qs = MatchOption old ((value_at k ps ≡ None) × (qs ≡ ps)) (λ w. (key : K) × IsAmongOthers k key w qs ps)

module _ {K V : Type 0} (same_key : K → K → Type 0) (same_value : V → V → Type 0) where
  -- The pairs qs are, in some order, copies of the pairs ps.
  pub record AreCopies (ps qs : List (K × V)) : Type 0 where
    pub copies : List (K × V)
    pub copied : AllZip (λ p q. same_key p.0 q.0 × same_value p.1 q.1) ps copies
    pub is : IsPermutation copies qs

module _ {K V : Type 0} (eq : K → K → Bool) (same : V → V → Bool) (ps qs : List (K × V)) where
  -- Both have a value at the key, and the two are equal; or neither has one.
  abbrev pub agree_at : K → Bool
  agree_at k = option_eq same (value_at eq k ps) (value_at eq k qs)

  -- They agree at each key of either.
  abbrev pub are_equal : Bool
  are_equal = list_all agree_at (keys_of ps) && list_all agree_at (keys_of qs)
