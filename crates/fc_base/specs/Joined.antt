-- What an append makes of two ascending lists of pairs.
use Rattle.std.specs.Prelude.{List, [], ◌∷◌, ◌++◌}
use Rattle.std.specs.declared.cmp.Ordering.{Ordering}
use Rattle.fc_base.specs.Parts.{below, above}

module _ {K V : Type 0} (cmp : K → K → Ordering) where
  -- The list with the pair in the place of the one with an equal key, or else where its key belongs.
  abbrev pub placed : List (K × V) → K × V → List (K × V)
  placed s e = below cmp s e.0 ++ e ∷ above cmp s e.0

  -- The first list with each pair of the second placed in it: of equal keys, key and value are the second's.
  abbrev pub joined : List (K × V) → List (K × V) → List (K × V)
  joined s [] = s
  joined s (e ∷ t) = joined (placed s e) t
