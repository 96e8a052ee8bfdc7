-- What an entry keeps of its place: it stays one, whatever values are written there.
use Rattle.std.specs.Prelude.{ℕ, List, [], ◌∷◌}
use Rattle.fc_tree_node.specs.TreePlace.{IsPlaceIn}
use Rattle.fc_map.specs.Entries.{Map}
use Rattle.fc_map.specs.Lends.{written_in}

module _ {K V Z : Type 0} where
  -- The map, once these values were written at the place that the path leads to, one after another.
  abbrev pub all_written : Map K V Z → List ℕ → List V → Map K V Z
  all_written m path [] = m
  all_written m path (v ∷ values) = all_written (written_in m path v) path values

  -- The path leads to a pair of the map, whatever values are written there. So it does in the map with another value there, by computing alone.
  abbrev pub IsKeptPlace : Map K V Z → List ℕ → Type 0
  IsKeptPlace m path = (values : List V) → IsPlaceIn (all_written m path values) path
