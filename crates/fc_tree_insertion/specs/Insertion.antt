-- What an insertion leaves of a node, and what the node hands out where it was split.
use Rattle.std.specs.Prelude.{ℕ, ◌+◌, ◌≤◌, List, ◌∷◌, ◌++◌, length, Option, Some, None}
use Rattle.fc_base.specs.Sizes.{min_len}
use Rattle.fc_tree_node.specs.declared.node.Node.{Node}
use Rattle.fc_tree_node.specs.Blocks.{blocks_of}
use Rattle.fc_tree_node.specs.Node.{own_pairs, children_of, pairs_of}

-- The pair in the middle and the node of those after it, where a node was split.
abbrev pub Split : Type 0 → Type 0 → Type 0 → Type 0
Split K V Z = Option ((K × V) × Node K V Z)

module _ {K V Z : Type 0} where
  -- All pairs in the node and below it, then those that it handed out.
  abbrev pub spread : Node K V Z → Split K V Z → List (K × V)
  spread n None = pairs_of n
  spread n (Some (up, right)) = pairs_of n ++ up ∷ pairs_of right

  -- The node's own pairs, then those that it handed out.
  abbrev pub own_pairs_after : Node K V Z → Split K V Z → List (K × V)
  own_pairs_after n None = own_pairs n
  own_pairs_after n (Some (up, right)) = own_pairs n ++ up ∷ own_pairs right

  -- The node's children, then those of the node that it handed out.
  abbrev pub children_after : Node K V Z → Split K V Z → List (Node K V Z)
  children_after n None = children_of n
  children_after n (Some (up, right)) = children_of n ++ children_of right

  -- The node has the fewest pairs or one more, as each half of a node that was split.
  abbrev pub IsHalved : Node K V Z → Type 0
  IsHalved n = (min_len ≤ length (own_pairs n)) × (length (own_pairs n) ≤ min_len + 1)

  -- The blocks of the node and of all below it, and of what it handed out.
  abbrev pub blocks_after : Node K V Z → Split K V Z → ℕ
  blocks_after n None = blocks_of n
  blocks_after n (Some (up, right)) = blocks_of n + blocks_of right
