-- What a list of items makes of a map, put in one after another.
use Rattle.std.specs.Prelude.{◌≡◌, Bool, List, [], ◌∷◌, ◌++◌, Option, None}
use Rattle.std.specs.Map.{update_all}
use Rattle.fc_hash.specs.Pairs.{value_at, IsPut}

module _ {K V : Type 0} (eq : K → K → Bool) where
  -- Each item is put in, in turn.
  abbrev pub ArePut : List (K × V) → List (K × V) → List (K × V) → Type 0
  ArePut ps [] qs = qs ≡ ps
  ArePut ps (e ∷ items) qs = (old : Option V) × (between : List (K × V)) × IsPut eq e.0 e.1 old ps between × ArePut between items qs

  -- The map with the items put in: at each key it has the last value that was put there, or else what it had.
  pub record IsPutAll (ps items qs : List (K × V)) : Type 0 where
    pub put : ArePut ps items qs
    pub values : (q : K) → value_at eq q qs ≡ update_all eq (λ k. value_at eq k ps) items q

  -- All items were put in but the last one, whose key is new.
  pub record IsPutUpTo (ps taken qs : List (K × V)) : Type 0 where
    pub front : List (K × V)
    pub item : K × V
    pub is : taken ≡ front ++ item ∷ []
    pub extended : IsPutAll ps front qs
    pub new_key : value_at eq item.0 qs ≡ None
