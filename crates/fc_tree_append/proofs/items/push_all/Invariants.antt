use Rattle.std.proofs.Common.{◌≡◌, ◌+◌, ◌≤◌, ◌++◌, length}
use Rattle.fc_tree_append.proofs.items.push_all.Given as goal

abbrev pub invariant-loop-builder : goal.invariant-loop-builder
invariant-loop-builder g l = (length l.pairs ≤ l.builder.room)
    × (l.builder.pairs ++ l.pairs ≡ l.initial.builder.pairs ++ l.initial.pairs)
    × (length l.builder.pairs + l.builder.room ≡ length l.initial.builder.pairs + l.initial.builder.room)

abbrev pub decreases-loop-builder : goal.decreases-loop-builder
decreases-loop-builder g l = length l.pairs
