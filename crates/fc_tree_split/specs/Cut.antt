-- A tree that is cut in two along a path.
use Rattle.std.specs.Prelude.{◌≡◌, ℕ, zero, suc, ◌+◌, ◌*◌, List, [], ◌∷◌, Some, None, ◌⊎◌}
use Rattle.fc_tree_node.specs.declared.node.Node.{Node}
use Rattle.fc_tree_node.specs.Node.{own_pairs, children_of, IsEmptyLeaf}
use Rattle.fc_tree_node.specs.LeafGap.{IsLeafGap}
use Rattle.fc_tree_node.specs.Measures.{height_of}
use Rattle.fc_tree_node.specs.Place.{IsPlace}
use Rattle.fc_tree_node.specs.Tree.{Map, entries}
use Rattle.fc_tree_node.specs.TreePlace.{before_gap_in, after_gap_in, before_pair_in, after_pair_in, pair_in}

module _ {K V Z : Type 0} where
  -- Nodes without pairs, each the only child of the one above it, down to a leaf so many levels below.
  abbrev pub IsEmpty : ℕ → Node K V Z → Type 0
  IsEmpty zero n = IsEmptyLeaf n
  IsEmpty (suc h) n = (own_pairs n ≡ []) × (below : Node K V Z) × (children_of n ≡ below ∷ []) × IsEmpty h below

  -- The path leads to a pair, or down to a gap between the pairs of a leaf.
  abbrev pub IsCutPath : List ℕ → Node K V Z → Type 0
  IsCutPath path root = IsPlace path root ⊎ IsLeafGap path root

  -- The same of the tree of a map.
  abbrev pub IsCutPathIn : List ℕ → Map K V Z → Type 0
  IsCutPathIn path None = ⊥
  IsCutPathIn path (Some root) = IsCutPath path root

  -- The path leads down to a gap between the pairs of a leaf of the map.
  abbrev pub IsLeafGapIn : List ℕ → Map K V Z → Type 0
  IsLeafGapIn path None = ⊥
  IsLeafGapIn path (Some root) = IsLeafGap path root

  -- How many requests a cut makes: one for a leaf, and two for a node at each level above. There is nothing to be cut where there is no root.
  abbrev pub border_requests : Map K V Z → ℕ
  border_requests None = 0
  border_requests (Some root) = 2 * height_of root + 1

  -- One map was cut into two others: at a pair, into those before it, and the pair with those after it; at a gap, into those before and those after it.
  pub record IsCutInTwo (path : List ℕ) (whole left right : Map K V Z) : Type 0 where
    pub left_of_pair : (pair : K × V) → pair_in whole path ≡ Some pair → entries left ≡ before_pair_in whole path
    pub right_of_pair : (pair : K × V) → pair_in whole path ≡ Some pair → entries right ≡ pair ∷ after_pair_in whole path
    pub left_of_gap : IsLeafGapIn path whole → entries left ≡ before_gap_in whole path
    pub right_of_gap : IsLeafGapIn path whole → entries right ≡ after_gap_in whole path
