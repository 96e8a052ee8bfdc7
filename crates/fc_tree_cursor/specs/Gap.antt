-- Gaps of the leaves of a tree: each gap between two pairs is the gap of one leaf.
use Rattle.std.specs.Prelude.{◌≡◌, ℕ, zero, suc, ◌-◌, ◌<◌, ◌≤◌, List, [], ◌∷◌, ◌++◌, length, take, slice_index, slice_set, Option, Some, None}
use Rattle.fc_tree_node.specs.declared.node.Node.{Node}
use Rattle.fc_tree_node.specs.Node.{own_pairs}
use Rattle.fc_tree_node.specs.Path.{before_gap}
use Rattle.fc_tree_node.specs.Leaf.{leaf_at}
use Rattle.fc_tree_node.specs.LeafGap.{IsLeafGap}
use Rattle.fc_tree_node.specs.Place.{IsDescent, node_at}
use Rattle.fc_tree_node.specs.Tree.{Map}
use Rattle.fc_tree_node.specs.TreePlace.{before_gap_in}

-- So many zeros.
abbrev pub zeros : ℕ → List ℕ
zeros zero = []
zeros (suc n) = 0 ∷ zeros n

-- The path with its last step one less.
abbrev pub one_back : List ℕ → List ℕ
one_back [] = []
one_back (i ∷ []) = (i - 1) ∷ []
one_back (i ∷ j ∷ path) = i ∷ one_back (j ∷ path)

-- The second path is the first with another last step, or the same one.
abbrev pub IsBeside : List ℕ → List ℕ → Type 0
IsBeside a b = (step : ℕ) × (b ≡ slice_set a (length a - 1) step)

module _ {K V Z : Type 0} where
  -- The path leads to a gap of a leaf of the map; it has no step where there is no root.
  abbrev pub IsGapIn : Map K V Z → List ℕ → Type 0
  IsGapIn None path = path ≡ []
  IsGapIn (Some root) path = IsLeafGap path root

  -- The path leads to the gap after all pairs of its leaf; it has no step where there is no root.
  abbrev pub IsLeafEnd : Map K V Z → List ℕ → Type 0
  IsLeafEnd None path = path ≡ []
  IsLeafEnd (Some root) path = slice_index path (length path - 1) ≡ length (own_pairs (leaf_at path root))

  -- The path leads to the gap before all pairs of its leaf; it has no step where there is no root.
  abbrev pub IsLeafStart : Map K V Z → List ℕ → Type 0
  IsLeafStart None path = path ≡ []
  IsLeafStart (Some root) path = slice_index path (length path - 1) ≡ 0

  -- A path goes on to a gap of a leaf below the node, which is after that many of the node's pairs.
  abbrev pub GoesOn : List ℕ → List ℕ → Node K V Z → ℕ → Type 0
  GoesOn old new n count = (path : List ℕ) × (new ≡ old ++ path) × IsLeafGap path n × (length (before_gap path n) ≡ count)

  -- Where a path goes on from a node, that is the leaf of its gap.
  abbrev pub EndsIn : List ℕ → List ℕ → Node K V Z → Node K V Z → Type 0
  EndsIn old new n leaf = (path : List ℕ) → new ≡ old ++ path → leaf ≡ leaf_at path n

  -- Two paths lead to gaps of the map, the first to no later one than the second.
  abbrev pub AreEndsIn : Map K V Z → List ℕ → List ℕ → Type 0
  AreEndsIn m front back = IsGapIn m front × IsGapIn m back × (length (before_gap_in m front) ≤ length (before_gap_in m back))

  -- So many first steps of a path lead down to the node, and it has a step more.
  abbrev pub LeadsTo : List ℕ → Node K V Z → ℕ → Node K V Z → Type 0
  LeadsTo gap root level n = (level < length gap) × IsDescent (take level gap) root × (n ≡ node_at (take level gap) root)

  -- The node, if one is given, is above the one that so many first steps of a path lead down to.
  abbrev pub IsAboveAt : List ℕ → Node K V Z → ℕ → Option (Node K V Z) → Type 0
  IsAboveAt gap root level None = Unit {0}
  IsAboveAt gap root level (Some n) = (0 < level) × (n ≡ node_at (take (level - 1) gap) root)

  -- The node, if one is given, is above the leaf of a gap of the map.
  abbrev pub IsAbove : Map K V Z → List ℕ → Option (Node K V Z) → Type 0
  IsAbove m gap above = (root : Node K V Z) → m ≡ Some root → IsAboveAt gap root (length gap - 1) above
