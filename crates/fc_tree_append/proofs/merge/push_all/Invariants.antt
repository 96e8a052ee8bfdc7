use Rattle.std.proofs.Common.{◌≡◌, ℕ, ◌+◌, ◌≤◌, ◌++◌, length}
use Rattle.fc_base.specs.Sizes.{capacity}
use Rattle.fc_tree_drain.specs.LeafFront.{IsOpenLeaf}
use Rattle.fc_tree_append.proofs.merge.push_all.Given as goal

-- the last but one: there is room for what is left of another open leaf too, as there was
abbrev pub invariant-loop-pairs : goal.invariant-loop-pairs
invariant-loop-pairs g l = IsOpenLeaf l.pairs
    × (length l.pairs.pairs ≤ l.builder.limit)
    × (l.pairs.in_leaf ≤ l.builder.room)
    × (l.builder.pairs ++ l.pairs.pairs ≡ l.initial.builder.pairs ++ l.initial.pairs.pairs)
    × (length l.builder.pairs + l.builder.limit ≡ length l.initial.builder.pairs + l.initial.builder.limit)
    × ((other : ℕ) → other ≤ capacity → length l.initial.pairs.pairs + other ≤ l.initial.builder.limit
    → l.initial.pairs.in_leaf + other ≤ l.initial.builder.room → (length l.pairs.pairs + other ≤ l.builder.limit) × (l.pairs.in_leaf + other ≤ l.builder.room))
    × (l.builder.blocks + l.pairs.blocks ≤ l.initial.builder.blocks + l.initial.pairs.blocks)

abbrev pub decreases-loop-pairs : goal.decreases-loop-pairs
decreases-loop-pairs g l = length l.pairs.pairs
