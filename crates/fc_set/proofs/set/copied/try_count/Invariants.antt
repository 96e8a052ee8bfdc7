use Rattle.std.proofs.Common.{List}
use Rattle.fc_set.specs.Copied.{Lends}
use Rattle.fc_set.proofs.CopiedFacts.{IsCounted}
use Rattle.fc_set.proofs.set.copied.try_count.Given as goal

abbrev pub invariant-loop-item : goal.invariant-loop-item
invariant-loop-item g l = (goal.iterator-loop-item g).can_next l._item-iterator
    × (goal.iterator-loop-item g).is_finite l._item-iterator
    × ((all : List g.row.T.Denot) → Lends g.I.Iterator.next_gives l.fn.walk all → IsCounted g.I.Iterator.next_gives all l.count l._item-iterator)
