use Rattle.std.proofs.Common.{◌≡◌, ◌++◌, ◌≤◌}
use Rattle.fc_vec.proofs.vec.try_vec.extend.push_all.Given as goal

abbrev pub invariant-loop-item : goal.invariant-loop-item
invariant-loop-item g l = (goal.iterator-loop-item g).can_next l.item-iterator × (goal.iterator-loop-item g).is_finite l.item-iterator
    × (l.v.items ≡ l.initial.v.items ++ l.yielded) × (l.initial.v.cap ≤ l.v.cap)
