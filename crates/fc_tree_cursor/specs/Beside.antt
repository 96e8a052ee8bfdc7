-- The place of a pair of a map by how many pairs stand before it, where one was found.
use Rattle.std.specs.Prelude.{◌≡◌, ℕ, ◌+◌, Bool, List, length, IsTrue, IsFalse}
use Rattle.fc_tree_node.specs.Tree.{Map, entries}
use Rattle.fc_tree_node.specs.TreePlace.{IsPlaceIn, before_pair_in}

module _ {K V Z : Type 0} where
  -- The path leads to the pair after the first n; where it was not found, the map has no more than these.
  abbrev pub IsNextIn : Bool → Map K V Z → List ℕ → ℕ → Type 0
  IsNextIn found m path n = (IsTrue found → IsPlaceIn m path × (length (before_pair_in m path) ≡ n)) × (IsFalse found → n ≡ length (entries m))

  -- The path leads to the last of the first n pairs; where it was not found, n is none.
  abbrev pub IsLastIn : Bool → Map K V Z → List ℕ → ℕ → Type 0
  IsLastIn found m path n = (IsTrue found → IsPlaceIn m path × (length (before_pair_in m path) + 1 ≡ n)) × (IsFalse found → n ≡ 0)
