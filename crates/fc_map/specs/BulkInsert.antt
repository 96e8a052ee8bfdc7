-- A map while it is extended: its pairs stand in a tree that is open at the right edge, or in the map.
use Rattle.std.specs.Prelude.{◌≡◌, ℕ, ◌⊎◌, List, [], ◌++◌, length}
use Rattle.std.specs.declared.cmp.Ordering.{Ordering}
use Rattle.fc_base.specs.Ascending.{IsAscending}

-- The pairs so far, and how many of them stand in the map: none as long as the tree is open.
pub record Inserting (K V : Type 0) : Type 0 where
  pub pairs : List (K × V)
  pub closed : ℕ

module _ {K V : Type 0} where
  -- What a contract sees of a tree and a map beside it.
  abbrev pub inserting : List (K × V) → List (K × V) → Inserting K V
  inserting tree map = record { pairs = tree ++ map; closed = length map }

  -- The pairs of the open tree ascend, and those of the map are none unless the tree has none.
  abbrev pub IsBulkInsert : (K → K → Ordering) → List (K × V) → List (K × V) → Type 0
  IsBulkInsert cmp tree map = IsAscending cmp tree × ((tree ≡ []) ⊎ (map ≡ []))
