use Rattle.std.proofs.Common.{◌≡◌, ◌+◌, ◌<◌, ◌≤◌, ◌++◌, length}
use Rattle.fc_base.specs.Ascending.{IsAscending}
use Rattle.fc_base.specs.Joined.{joined}
use Rattle.fc_tree_append.specs.Reused.{HasRoom}
use Rattle.fc_tree_append.proofs.merge.merge.Given as goal

abbrev pub invariant-loop-their_pairs : goal.invariant-loop-their_pairs
invariant-loop-their_pairs g l =
    (IsAscending g.K.Ord.cmp l.our_pairs.pairs × IsAscending g.K.Ord.cmp l.their_pairs.pairs)
    × HasRoom l.our_pairs l.their_pairs l.builder
    × (l.builder.pairs ++ joined g.K.Ord.cmp l.our_pairs.pairs l.their_pairs.pairs ≡ l.initial.builder.pairs ++ joined g.K.Ord.cmp l.initial.our_pairs.pairs
    l.initial.their_pairs.pairs)
    × (length l.builder.pairs + l.builder.limit ≡ length l.initial.builder.pairs + l.initial.builder.limit)
    × (l.count.comparisons < l.initial.count.comparisons + (length l.initial.our_pairs.pairs + length l.initial.their_pairs.pairs))
    × (l.count.comparisons + (length l.our_pairs.pairs + length l.their_pairs.pairs) ≤ l.initial.count.comparisons + (length l.initial.our_pairs.pairs + length
    l.initial.their_pairs.pairs))
    × (l.initial.count.comparisons + length l.initial.our_pairs.pairs ≤ l.count.comparisons + length l.our_pairs.pairs)
    × (l.initial.count.comparisons + length l.initial.their_pairs.pairs ≤ l.count.comparisons + length l.their_pairs.pairs)
    × (l.count.moves ≡ l.initial.count.moves)
    × (l.builder.blocks + l.our_pairs.blocks + l.their_pairs.blocks ≤ l.initial.builder.blocks + l.initial.our_pairs.blocks + l.initial.their_pairs.blocks)

abbrev pub decreases-loop-their_pairs : goal.decreases-loop-their_pairs
decreases-loop-their_pairs g l = length l.our_pairs.pairs + length l.their_pairs.pairs
