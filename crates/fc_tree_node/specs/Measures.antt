-- How many nodes and how many levels a tree has: a way down, or a recursion, ends as they fall.
use Rattle.std.specs.Prelude.{ℕ, suc, ◌+◌, List, [], ◌∷◌}
use Rattle.fc_tree_node.specs.declared.node.Node.{Node, Node-F, fold-Node}
use Rattle.fc_tree_node.specs.Node.{items_or_none}

abbrev pub total : List ℕ → ℕ
total [] = 0
total (x ∷ xs) = x + total xs

-- One more than the first number.
abbrev pub above_first : List ℕ → ℕ
above_first [] = 0
above_first (x ∷ xs) = suc x

module _ {K V Z : Type 0} where
  abbrev pub nodes_step : Node-F K V Z ℕ → ℕ
  nodes_step f = suc (total (items_or_none f.children))

  -- The node and all nodes below it.
  abbrev pub nodes_of : Node K V Z → ℕ
  nodes_of = fold-Node K V Z ℕ nodes_step

  abbrev pub height_step : Node-F K V Z ℕ → ℕ
  height_step f = above_first (items_or_none f.children)

  -- The levels below the node, along its first children.
  abbrev pub height_of : Node K V Z → ℕ
  height_of = fold-Node K V Z ℕ height_step
