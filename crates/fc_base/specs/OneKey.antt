-- What an insertion and a removal at one key make of a list of pairs.
use Rattle.std.specs.Prelude.{List, ◌∷◌, ◌++◌, unwrap_or}
use Rattle.std.specs.Option.{option_map}
use Rattle.std.specs.declared.cmp.Ordering.{Ordering}
use Rattle.fc_base.specs.Parts.{below, above, at}

module _ {K Q V : Type 0} (cmp : K → Q → Ordering) where
  -- The list with this value at the query: an equal key that is there stays, and else k is the new key.
  abbrev pub put_by : List (K × V) → Q → K → V → List (K × V)
  put_by s q k v = below cmp s q ++ (unwrap_or (option_map (λ e. e.0) (at cmp s q)) k, v) ∷ above cmp s q

  -- The list without the pair at the key.
  abbrev pub cut : List (K × V) → Q → List (K × V)
  cut s k = below cmp s k ++ above cmp s k

module _ {K V : Type 0} (cmp : K → K → Ordering) where
  -- The list with this value at the key: an equal key that is there stays, and else the key is new.
  abbrev pub put : List (K × V) → K → V → List (K × V)
  put s k v = put_by cmp s k k v
