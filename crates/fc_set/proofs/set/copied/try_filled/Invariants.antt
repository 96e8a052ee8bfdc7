use Rattle.std.proofs.Common.{List}
use Rattle.fc_set.specs.Copied.{Lends}
use Rattle.fc_set.proofs.CopiedFacts.{IsCopiedSoFar}
use Rattle.fc_set.proofs.set.copied.try_filled.Given as goal

abbrev pub invariant-loop-item : goal.invariant-loop-item
invariant-loop-item g l = (goal.iterator-loop-item g).can_next l.item-iterator
    × (goal.iterator-loop-item g).is_finite l.item-iterator
    × ((all : List g.row.T.Denot) → Lends g.I.Iterator.next_gives l.fn.walk all
    → IsCopiedSoFar g.I.Iterator.next_gives all g.T.TryClone.same l.builder.pairs l.item-iterator)
