-- How many nodes a tree has, each of which is one request for its pairs, and how many of them are inner nodes, each of which is one more for its children.
use Rattle.std.specs.Prelude.{ℕ, suc, ◌+◌, ◌*◌, ◌/◌, List, [], ◌∷◌, Option, Some, None}
use Rattle.fc_tree_node.specs.declared.node.Node.{Node, Node-F, fold-Node}
use Rattle.fc_tree_node.specs.Tree.{Map}

-- The numbers of a list added up.
abbrev pub total : List ℕ → ℕ
total [] = 0
total (n ∷ ns) = n + total ns

-- What the children have, if there are some.
abbrev pub nodes_below : Option (List ℕ) → ℕ
nodes_below None = 0
nodes_below (Some ns) = total ns

-- One, if there is room for children, and what the children have.
abbrev pub inner_below : Option (List ℕ) → ℕ
inner_below None = 0
inner_below (Some ns) = suc (total ns)

module _ {K V Z : Type 0} where
  -- One, and what the children have.
  abbrev pub nodes_step : Node-F K V Z ℕ → ℕ
  nodes_step f = suc (nodes_below f.children)

  -- The node and all below it.
  abbrev pub nodes_of : Node K V Z → ℕ
  nodes_of = fold-Node K V Z ℕ nodes_step

  -- The same of nodes with room for children.
  abbrev pub inner_step : Node-F K V Z ℕ → ℕ
  inner_step f = inner_below f.children

  -- Those of them with room for children.
  abbrev pub inner_of : Node K V Z → ℕ
  inner_of = fold-Node K V Z ℕ inner_step

  -- The nodes of a map.
  abbrev pub nodes_in : Map K V Z → ℕ
  nodes_in None = 0
  nodes_in (Some root) = nodes_of root

  -- Those of them with room for children.
  abbrev pub inner_in : Map K V Z → ℕ
  inner_in None = 0
  inner_in (Some root) = inner_of root

  -- The bytes that a map holds, where a node's room for pairs has p bytes, and an inner node's room for children c.
  abbrev pub bytes_in : ℕ → ℕ → Map K V Z → ℕ
  bytes_in p c m = nodes_in m * p + inner_in m * c

-- The most nodes of a map of n pairs: one for each seven, and one for what is left.
abbrev pub most_nodes : ℕ → ℕ
most_nodes n = (n + 6) / 7

-- The most inner nodes among them: one for each eight nodes, and one for what is left, if it is three nodes or more.
abbrev pub most_inner : ℕ → ℕ
most_inner n = (most_nodes n + 5) / 8

-- The most bytes that a map of n pairs holds.
abbrev pub most_bytes : ℕ → ℕ → ℕ → ℕ
most_bytes p c n = most_nodes n * p + most_inner n * c
