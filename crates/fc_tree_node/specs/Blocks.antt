-- How many blocks of memory a tree has: each was asked for by one request.
use Rattle.std.specs.Prelude.{ℕ, ◌+◌, List, Option, Some, None}
use Rattle.fc_tree_node.specs.declared.node.Node.{Node, Node-F, out-Node, fold-Node}
use Rattle.fc_tree_node.specs.Measures.{total}
use Rattle.fc_tree_node.specs.Node.{items_or_none}
use Rattle.fc_tree_node.specs.Tree.{Map}

-- One for a node's pairs, and one more where it has room for children.
abbrev pub own_blocks : {X : Type 0} → Option (List X) → ℕ
own_blocks None = 1
own_blocks (Some children) = 2

module _ {K V Z : Type 0} where
  -- The blocks of the node alone.
  abbrev pub blocks_alone : Node K V Z → ℕ
  blocks_alone n = own_blocks (out-Node K V Z n).children

  abbrev pub blocks_step : Node-F K V Z ℕ → ℕ
  blocks_step f = own_blocks f.children + total (items_or_none f.children)

  -- The blocks of the node and of all nodes below it.
  abbrev pub blocks_of : Node K V Z → ℕ
  blocks_of = fold-Node K V Z ℕ blocks_step

  -- The blocks of a map's tree: none where there is no root.
  abbrev pub blocks_in : Map K V Z → ℕ
  blocks_in None = 0
  blocks_in (Some root) = blocks_of root
