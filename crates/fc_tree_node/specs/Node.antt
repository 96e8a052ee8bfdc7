-- What a node holds in order, and when it is sound.
use Rattle.std.specs.Prelude.{◌≡◌, ℕ, zero, suc, ◌+◌, ◌≤◌, List, [], length, slice_index_or, Option, Some, None}
use Rattle.std.specs.List.{AllByRecursion}
use Rattle.fc_tree_node.specs.Weave.{weave}
use Rattle.fc_base.specs.Sizes.{capacity, min_len, most_height}
use Rattle.fc_tree_node.specs.declared.node.Node.{Node, Node-F, out-Node, fold-Node}

-- The items, if there is a list of them, and else none.
abbrev pub items_or_none : {X : Type 0} → Option (List X) → List X
items_or_none None = []
items_or_none (Some xs) = xs

module _ {K V Z : Type 0} where
  -- The pairs that stand in the node itself, in order.
  abbrev pub own_pairs : Node K V Z → List (K × V)
  own_pairs n = (out-Node K V Z n).pairs

  -- The node's children, in order; a leaf has none.
  abbrev pub children_of : Node K V Z → List (Node K V Z)
  children_of n = items_or_none (out-Node K V Z n).children

  -- A leaf's pairs, or the children's pairs and a node's own pairs in turn, from the first child on.
  abbrev pub pairs_step : Node-F K V Z (List (K × V)) → List (K × V)
  pairs_step f = weave (items_or_none f.children) f.pairs

  -- All pairs in the node and below it, in order.
  abbrev pub pairs_of : Node K V Z → List (K × V)
  pairs_of = fold-Node K V Z (List (K × V)) pairs_step

  -- The child at the place, or the node itself where there is none.
  abbrev pub child_at : Node K V Z → ℕ → Node K V Z
  child_at n i = slice_index_or (children_of n) i n

  -- The node has no room for children.
  abbrev pub IsLeaf : Node K V Z → Type 0
  IsLeaf n = (out-Node K V Z n).children ≡ None

  -- The node has one child more than it has pairs of its own, so that it is no leaf.
  abbrev pub IsInner : Node K V Z → Type 0
  IsInner n = length (children_of n) ≡ length (own_pairs n) + 1

  -- Each node has at most the most pairs and each below the first at least the fewest, and the leaves lie this many levels below the first.
  abbrev pub IsLevelled : ℕ → Node K V Z → Type 0
  IsLevelled zero n = (length (own_pairs n) ≤ capacity) × IsLeaf n
  IsLevelled (suc h) n = (length (own_pairs n) ≤ capacity) × IsInner n × AllByRecursion (λ c. (min_len ≤ length (own_pairs c)) × IsLevelled h c) (children_of n)

  -- Its levels are those of a tree that is not too high for a path.
  abbrev pub IsTree : Node K V Z → Type 0
  IsTree n = (h : ℕ) × (h ≤ most_height) × IsLevelled h n

  -- The node is levelled and holds at least the fewest pairs itself.
  abbrev pub IsSound : ℕ → Node K V Z → Type 0
  IsSound h n = (min_len ≤ length (own_pairs n)) × IsLevelled h n

  -- The node is levelled and holds at least one pair itself.
  abbrev pub IsSoundRoot : ℕ → Node K V Z → Type 0
  IsSoundRoot h n = (1 ≤ length (own_pairs n)) × IsLevelled h n

  -- A leaf that holds nothing.
  abbrev pub IsEmptyLeaf : Node K V Z → Type 0
  IsEmptyLeaf n = (own_pairs n ≡ []) × IsLeaf n

  -- A node with room for children that holds nothing.
  abbrev pub IsEmptyInner : Node K V Z → Type 0
  IsEmptyInner n = (own_pairs n ≡ []) × ((out-Node K V Z n).children ≡ Some [])
