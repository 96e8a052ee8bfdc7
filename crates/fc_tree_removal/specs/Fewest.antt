-- How many moves a removal makes at least.
use Rattle.std.specs.Prelude.{◌≡◌, ℕ, ◌+◌, ◌*◌, ◌≤◌, length, Some, None}
use Rattle.fc_base.specs.Sizes.{min_len}
use Rattle.fc_base.specs.declared.count.Count.{Count}
use Rattle.fc_tree_node.specs.Node.{own_pairs}
use Rattle.fc_tree_node.specs.Tree.{Map}
use Rattle.fc_tree_removal.specs.Removal.{IsSoundTree}

-- The fewest moves of a rebalancing: those of a merge, which moves the pair between two nodes and those of the right one, one too few at least.
abbrev pub least_rebalancing : ℕ
least_rebalancing = min_len + 1

-- The fewest moves of a removal by which a node so many levels above the leaves loses a pair of its own: a node of each level below was rebalanced.
abbrev pub fewest_moves : ℕ → ℕ
fewest_moves h = 1 + least_rebalancing * h

module _ {K V Z : Type 0} where
  -- How many pairs the root holds itself, if there is one.
  abbrev pub root_len : Map K V Z → ℕ
  root_len None = 0
  root_len (Some root) = length (own_pairs root)

  -- Where the root holds another number of pairs after a removal, or gave way to its only child, a node of each level below it was rebalanced.
  abbrev pub HasFewestMoves : Map K V Z → Map K V Z → Count → Count → Type 0
  HasFewestMoves before after old new = (h : ℕ) → IsSoundTree h before → ¬ (root_len after ≡ root_len before) → old.moves + fewest_moves h ≤ new.moves
