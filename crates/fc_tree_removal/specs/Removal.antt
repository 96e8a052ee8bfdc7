-- What is left of a node and of a tree after a removal.
use Rattle.std.specs.Prelude.{◌≡◌, ℕ, ◌-◌, ◌<◌, ◌⊎◌, List, [], ◌∷◌, length, Option, Some, None, MatchOption}
use Rattle.fc_base.specs.Sizes.{min_len}
use Rattle.fc_tree_node.specs.declared.node.Node.{Node}
use Rattle.fc_tree_node.specs.Node.{own_pairs, child_at, IsLeaf, IsSoundRoot}
use Rattle.fc_tree_node.specs.Tree.{Map}

module _ {K V Z : Type 0} where
  -- The tree is there, and sound at this height.
  abbrev pub IsSoundTree : ℕ → Map K V Z → Type 0
  IsSoundTree h None = ⊥
  IsSoundTree h (Some root) = IsSoundRoot h root

  -- What a removal leaves of a tree of this height: a sound tree as high or one level lower, or none where a leaf was the whole tree.
  abbrev pub IsTreeLeft : ℕ → Option (Node K V Z) → Type 0
  IsTreeLeft h tree = MatchOption tree (h ≡ 0) (λ root. IsSoundRoot h root ⊎ ((0 < h) × IsSoundRoot (h - 1) root))

  -- The place is one of a leaf that keeps enough pairs without one.
  abbrev pub IsSpared : List ℕ → Node K V Z → Type 0
  IsSpared [] n = ⊥
  IsSpared (i ∷ []) n = IsLeaf n × (min_len < length (own_pairs n))
  IsSpared (i ∷ j ∷ path) n = IsSpared (j ∷ path) (child_at n i)
