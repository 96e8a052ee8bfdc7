use Rattle.std.proofs.Common.{List}
use Rattle.fc_set.specs.Copied.{Lends}
use Rattle.fc_command.proofs.OperationFacts.{IsCopiedSoFar}
use Rattle.fc_command.proofs.command.operations.copies_of.Given as goal

-- the walk goes on and ends, and what it has left is what was not yet copied
abbrev pub invariant-loop-item : goal.invariant-loop-item
invariant-loop-item g l = (goal.iterator-loop-item g).can_next l.item-iterator
    × (goal.iterator-loop-item g).is_finite l.item-iterator
    × ((all : List g.row.K.Denot) → Lends g.I.Iterator.next_gives l.fn.walk all → IsCopiedSoFar g.I.Iterator.next_gives all l.copies.items l.item-iterator)
