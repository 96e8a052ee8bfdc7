-- Places and gaps in the tree of a map.
use Rattle.std.specs.Prelude.{ℕ, List, [], Option, Some, None}
use Rattle.fc_tree_node.specs.Path.{before_gap, after_gap}
use Rattle.fc_tree_node.specs.Place.{IsPlace, place_pair, before_pair, after_pair}
use Rattle.fc_tree_node.specs.Tree.{Map}

module _ {K V Z : Type 0} where
  -- The pairs before the gap that a path leads to; none where there is no root.
  abbrev pub before_gap_in : Map K V Z → List ℕ → List (K × V)
  before_gap_in None path = []
  before_gap_in (Some root) path = before_gap path root

  -- The pairs after the gap that a path leads to; none where there is no root.
  abbrev pub after_gap_in : Map K V Z → List ℕ → List (K × V)
  after_gap_in None path = []
  after_gap_in (Some root) path = after_gap path root

  -- The pairs before the pair that a path leads to; none where there is no root.
  abbrev pub before_pair_in : Map K V Z → List ℕ → List (K × V)
  before_pair_in None path = []
  before_pair_in (Some root) path = before_pair path root

  -- The pairs after the pair that a path leads to; none where there is no root.
  abbrev pub after_pair_in : Map K V Z → List ℕ → List (K × V)
  after_pair_in None path = []
  after_pair_in (Some root) path = after_pair path root

  -- The path leads to a pair of the map.
  abbrev pub IsPlaceIn : Map K V Z → List ℕ → Type 0
  IsPlaceIn None path = ⊥
  IsPlaceIn (Some root) path = IsPlace path root

  -- The pair that the path leads to, if there is one.
  abbrev pub pair_in : Map K V Z → List ℕ → Option (K × V)
  pair_in None path = None
  pair_in (Some root) path = place_pair path root
