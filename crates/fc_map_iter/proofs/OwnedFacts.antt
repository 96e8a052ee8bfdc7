-- What the owned walks over keys and values give, by what the walk over pairs gives.
use Rattle.std.proofs.Common.{◌≡◌, ◌<◌, List, [], ◌∷◌, ◌++◌, length, Option, Some, None, sym, ap, ◌∙◌, arith, length-append}
use Rattle.std.specs.Prelude.{map}
use Rattle.std.specs.Iterator.{MakesProgress, item_count}
use Rattle.std.proofs.lemmas.List.{length-map, map-append}

module _ {X : Type 0} (can : List X → Type 0) where
  -- a call that gives nothing
  pub ended : (s t : List X) (r : Option X) → r ≡ None → MakesProgress can (item_count (λ z. z)) s r t
  ended s t None e = record { on = λ f. tt; keeps = tt; rests = λ f. tt }
  ended s t (Some x) e = absurd cc

  -- a call that gives an item
  pub went : ((s : List X) → can s) → (s t : List X) (x : X) → length t < length s → MakesProgress can (item_count (λ z. z)) s (Some x) t
  went all s t x less = record { on = λ f. (all t, tt, less); keeps = all t; rests = λ f. tt }

module _ {P X : Type 0} (of : P → X) where
  -- as many are left
  pub many : (ps : List P) (xs : List X) → map of ps ≡ xs → length ps ≡ length xs
  many ps xs e = sym (length-map ps of) ∙ ap length e

  -- the last one is given
  pub last_given : (ps qs : List P) (xs : List X) (p : P) → map of ps ≡ xs → ps ≡ qs ++ p ∷ [] → xs ≡ map of qs ++ of p ∷ []
  last_given ps qs xs p e f = sym e ∙ ap (map of) f ∙ map-append of qs (p ∷ [])

  pub last_fewer : (ps qs : List P) (xs : List X) (p : P) → map of ps ≡ xs → ps ≡ qs ++ p ∷ [] → length (map of qs) < length xs
  last_fewer ps qs xs p e f = let g = ap length (last_given ps qs xs p e f) ∙ length-append (map of qs) (of p ∷ []) in omega arith
