-- How large a node is, how high a tree, and what a call on one key may cost at each level.
use Rattle.std.specs.Prelude.{ℕ}

-- The most pairs of a node.
abbrev pub capacity : ℕ
capacity = 15

-- The fewest pairs of a node below the root.
abbrev pub min_len : ℕ
min_len = 7

-- The most children of a node: one more than pairs.
abbrev pub most_children : ℕ
most_children = 16

-- The fewest children of an inner node below the root, so that each level has at least so many times the nodes of the one above it.
abbrev pub least_children : ℕ
least_children = 8

-- The most levels of a tree, that of its leaves included: the most steps of a path.
abbrev pub most_levels : ℕ
most_levels = 22

-- The most levels above the leaves.
abbrev pub most_height : ℕ
most_height = 21

-- The most comparisons of a search at one level.
abbrev pub level_comparisons : ℕ
level_comparisons = 15

-- The most moves of a call on one key at one level.
abbrev pub level_moves : ℕ
level_moves = 24

-- The most moves of an insertion at a node that it splits.
abbrev pub most_split_moves : ℕ
most_split_moves = 16
