-- Where a search of a map ends.
use Rattle.std.specs.Prelude.{◌≡◌, ℕ, ◌<◌, ◌↔◌, Bool, List, [], length, IsTrue, IsFalse, Some, None}
use Rattle.std.specs.declared.cmp.Ordering.{Ordering}
use Rattle.fc_base.specs.Sizes.{capacity}
use Rattle.fc_tree_insertion.specs.NewPair.{IsPutAt}
use Rattle.fc_tree_node.specs.Leaf.{leaf_at}
use Rattle.fc_tree_node.specs.Node.{own_pairs}
use Rattle.fc_tree_search.specs.Found.{IsFound, IsGap}
use Rattle.fc_map.specs.Entries.{Map}

module _ {K Q V Z : Type 0} (cmp : K → Q → Ordering) (k : Q) where
  -- The path leads to the pair whose key is equal to k.
  abbrev pub IsHeldAt : Map K V Z → List ℕ → Type 0
  IsHeldAt None path = ⊥
  IsHeldAt (Some root) path = IsFound cmp k root path

  -- The path leads to the gap where k would go; it has no step where there is no root.
  abbrev pub IsOpenAt : Map K V Z → List ℕ → Type 0
  IsOpenAt None path = path ≡ []
  IsOpenAt (Some root) path = IsGap cmp k root path

module _ {K V Z : Type 0} where
  -- Whether there is a leaf with room for another pair where the path ends.
  abbrev pub TellsRoom : Bool → List ℕ → Map K V Z → Type 0
  TellsRoom has_room path None = IsFalse has_room
  TellsRoom has_room path (Some root) = IsTrue has_room ↔ (length (own_pairs (leaf_at path root)) < capacity)

  -- The path leads to the pair, with these pairs before it and those after it.
  abbrev pub IsPutIn : List ℕ → Map K V Z → K × V → List (K × V) → List (K × V) → Type 0
  IsPutIn path None pair front back = ⊥
  IsPutIn path (Some root) pair front back = IsPutAt path root pair front back
