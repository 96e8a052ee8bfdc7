-- What the items of walks point to.
use Rattle.std.specs.Prelude.{List, map}
use Rattle.std.specs.Borrow.{Bor}

module _ {K V : Type 0} where
  -- The pair that two references point to.
  abbrev pub deref_pair : Bor K × Bor V → K × V
  deref_pair r = (r.0.now, r.1.now)

  -- The keys of the pairs, in their order.
  abbrev pub keys_of : List (K × V) → List K
  keys_of s = map (λ p. p.0) s

  -- The values of the pairs, in their order.
  abbrev pub values_of : List (K × V) → List V
  values_of s = map (λ p. p.1) s
