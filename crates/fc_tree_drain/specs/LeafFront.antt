-- What contracts see of the front of a tree whose used-up leaves are handed out, and how it is laid out.
use Rattle.std.specs.Prelude.{◌≡◌, ℕ, ◌+◌, ◌≤◌, List, [], ◌++◌, length, map, Option, Some, None}
use Rattle.fc_base.specs.Sizes.{capacity, most_levels}
use Rattle.fc_tree_node.specs.declared.node.Node.{Node}
use Rattle.fc_tree_node.specs.Blocks.{blocks_of}
use Rattle.fc_tree_node.specs.Measures.{total}
use Rattle.fc_tree_node.specs.Node.{items_or_none}
use Rattle.fc_tree_drain.specs.Opened.{IsFalling, AreEven, after_front}
use Rattle.fc_tree_drain.specs.declared.leaf_front.LeafFront.TheInside.{Inside}

-- The pairs that are left, in order, how many of them stand in the open leaf, and how many blocks of memory are left.
pub record Left (K V : Type 0) : Type 0 where
  pub pairs : List (K × V)
  pub in_leaf : ℕ
  pub blocks : ℕ

module _ {K V : Type 0} where
  -- In the open leaf stand at most as many pairs as a leaf holds, all of which are left.
  abbrev pub IsOpenLeaf : Left K V → Type 0
  IsOpenLeaf l = (l.in_leaf ≤ capacity) × (l.in_leaf ≤ length l.pairs)

  -- The open leaf is one block, if there is one.
  abbrev pub leaf_blocks : Option (List (K × V)) → ℕ
  leaf_blocks None = 0
  leaf_blocks (Some run) = 1

module _ {K V Z : Type 0} where
  -- What is left of the open leaf, and in the nodes above it.
  abbrev pub left : Inside K V Z → Left K V
  left f =
      record {
        pairs = items_or_none f.run ++ after_front f.nodes;
        in_leaf = length (items_or_none f.run);
        blocks = total (map blocks_of f.nodes) + leaf_blocks f.run;
      }

  -- With no open leaf nothing is left.
  abbrev pub HasLeaf : Option (List (K × V)) → List (Node K V Z) → Type 0
  HasLeaf None s = s ≡ []
  HasLeaf (Some run) s = Unit {0}

  -- The nodes above the open leaf lie each above the next, and nothing was taken from their backs.
  abbrev pub IsLeafFront : Inside K V Z → Type 0
  IsLeafFront f = IsFalling 0 most_levels f.nodes × AreEven f.nodes × HasLeaf f.run f.nodes × (length (items_or_none f.run) ≤ capacity)
