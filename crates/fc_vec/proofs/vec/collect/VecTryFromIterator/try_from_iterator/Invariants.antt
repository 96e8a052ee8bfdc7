use Rattle.std.proofs.Common.{◌≡◌}
use Rattle.fc_vec.proofs.vec.collect.VecTryFromIterator.try_from_iterator.Given as goal

abbrev pub invariant-loop-item : goal.invariant-loop-item
invariant-loop-item g l = (goal.iterator-loop-item g).can_next l.item-iterator × (goal.iterator-loop-item g).is_finite l.item-iterator
    × (l.made.items ≡ l.yielded)
