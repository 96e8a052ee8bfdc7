-- The pairs between two gaps of one map, and between two ends of which either may not be looked for yet.
use Rattle.std.specs.Prelude.{◌≡◌, ℕ, ◌≤◌, List, [], ◌∷◌, length, slice_range, Option, None, ◌⊎◌}
use Rattle.fc_tree_node.specs.declared.node.Node.{Node}
use Rattle.fc_tree_node.specs.Tree.{Map, entries}
use Rattle.fc_tree_node.specs.TreePlace.{before_gap_in}
use Rattle.fc_tree_cursor.specs.Gap.{IsGapIn, AreEndsIn, IsAbove}

-- The run is the items from one number of them up to another.
abbrev pub IsPart : {X : Type 0} → List X → List X → ℕ → ℕ → Type 0
IsPart run s i j = (i ≤ j) × (j ≤ length s) × (run ≡ slice_range s i j)

module _ {K V Z : Type 0} where
  -- The pairs of the map after the gap of the first path and before the gap of the second.
  abbrev pub between : Map K V Z → List ℕ → List ℕ → List (K × V)
  between m front back = slice_range (entries m) (length (before_gap_in m front)) (length (before_gap_in m back))

  -- The path leads to a gap of the map, or has no step: the end was then not looked for yet, and is that of the map.
  abbrev pub IsEndIn : Map K V Z → List ℕ → Type 0
  IsEndIn m path = (path ≡ []) ⊎ IsGapIn m path

  -- How many pairs are before the back: all, where it was not looked for yet.
  abbrev pub before_back : Map K V Z → List ℕ → ℕ
  before_back m [] = length (entries m)
  before_back m (i ∷ path) = length (before_gap_in m (i ∷ path))

  -- The pairs of the map after the front and before the back, each found or not.
  abbrev pub left_between : Map K V Z → List ℕ → List ℕ → List (K × V)
  left_between m front back = slice_range (entries m) (length (before_gap_in m front)) (before_back m back)

  -- Two paths stand for ends, the first for no later one than the second.
  abbrev pub AreEndsSoughtIn : Map K V Z → List ℕ → List ℕ → Type 0
  AreEndsSoughtIn m front back = IsEndIn m front × IsEndIn m back × (length (before_gap_in m front) ≤ before_back m back)

  -- Where a node above the leaf of an end is known, both ends are found.
  abbrev pub AreKnownIn : Map K V Z → List ℕ → List ℕ → Option (Node K V Z) → Option (Node K V Z) → Type 0
  AreKnownIn m front back above_front above_back =
      (AreEndsIn m front back × IsAbove m front above_front × IsAbove m back above_back) ⊎ (AreEndsSoughtIn m front back × (above_front ≡ None) × (above_back ≡ None))
