use Rattle.std.proofs.Common.{◌≡◌, ◌+◌, ◌≤◌, ◌++◌, length}
use Rattle.std.specs.List.{AllByRecursion}
use Rattle.std.specs.declared.cmp.Ordering.TheVariants.{Less}
use Rattle.fc_base.specs.Ascending.{IsAscending}
use Rattle.fc_tree_append.proofs.items.pass.Given as goal

abbrev pub invariant-loop-pairs : goal.invariant-loop-pairs
invariant-loop-pairs g l = IsAscending g.K.Ord.cmp l.pairs
    × AllByRecursion (λ e. g.K.Ord.cmp e.0 l.key ≡ Less) l.builder.pairs
    × (length l.pairs ≤ l.builder.room)
    × (l.builder.pairs ++ l.pairs ≡ l.initial.builder.pairs ++ l.initial.pairs)
    × (length l.builder.pairs + l.builder.room ≡ length l.initial.builder.pairs + l.initial.builder.room)

abbrev pub decreases-loop-pairs : goal.decreases-loop-pairs
decreases-loop-pairs g l = length l.pairs
