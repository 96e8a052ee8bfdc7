-- How far up an insertion splits nodes, and how many nodes it needs.
use Rattle.std.specs.Prelude.{◌≡◌, ℕ, suc, ◌+◌, ◌-◌, ◌≤◌, ◌*◌, ◌==◌, Bool, true, ◌&&◌, if◌then◌else◌, List, [], ◌∷◌, length, Option, Some, None}
use Rattle.fc_base.specs.Sizes.{capacity, most_split_moves}
use Rattle.fc_tree_node.specs.declared.node.Node.{Node}
use Rattle.fc_tree_node.specs.Node.{own_pairs, child_at, IsEmptyLeaf}
pub use Rattle.fc_tree_node.specs.Leaf.{leaf_at}

-- How many requests so many nodes take of which one is a leaf: one for the leaf, and two for each inner node. None takes none.
abbrev pub requests_for : ℕ → ℕ
requests_for nodes = 2 * nodes - 1

module _ {K V Z : Type 0} where
  -- Whether each node of the path is full.
  abbrev pub all_full : List ℕ → Node K V Z → Bool
  all_full [] n = true
  all_full (i ∷ path) n = (length (own_pairs n) == capacity) && all_full path (child_at n i)

  -- How many nodes are full one after another, from the leaf upwards: those that an insertion splits.
  abbrev pub cascade : List ℕ → Node K V Z → ℕ
  cascade [] n = 0
  cascade (i ∷ path) n = if all_full (i ∷ path) n then suc (length path) else cascade path (child_at n i)

  -- A new node for each that is split, and one more for a new root where each node of the path is full.
  abbrev pub nodes_needed : List ℕ → Node K V Z → ℕ
  nodes_needed path n = if all_full path n then cascade path n + 1 else cascade path n

  -- The most moves that an insertion makes: those of a split at each node that it splits, then 1 for a new root, or those of a node with room.
  abbrev pub insertion_moves : List ℕ → Node K V Z → ℕ
  insertion_moves path n = most_split_moves * cascade path n + (if all_full path n then 1 else capacity)

  -- A leaf that holds nothing where there is one to be split, and else none.
  abbrev pub IsSpareLeaf : Option (Node K V Z) → ℕ → Type 0
  IsSpareLeaf None splits = splits ≡ 0
  IsSpareLeaf (Some b) splits = (1 ≤ splits) × IsEmptyLeaf b

  -- How many nodes there are, of a leaf and so many inner nodes made ahead.
  abbrev pub spare_count : Option (Node K V Z) → ℕ → ℕ
  spare_count None inner = inner
  spare_count (Some b) inner = suc inner
