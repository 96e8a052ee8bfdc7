use Rattle.std.proofs.Common.{◌≡◌, length}
use Rattle.fc_timers.specs.Heap.{helds}
use Rattle.fc_timers.specs.Walks.{AreLeft, standing}
use Rattle.fc_timers.proofs.queue.iter.IterIterator.next.Given as goal

abbrev pub invariant-slots : goal.invariant-slots
invariant-slots g l = record {
  same : standing l.self-inside.slot (helds l.self-inside.rest.now) ≡ standing l.initial.self-inside.slot (helds l.initial.self-inside.rest.now);
  sound : AreLeft l.self-inside.slot l.self-inside.rest.now l.self-inside.left;
}

abbrev pub decreases-slots : goal.decreases-slots
decreases-slots g l = length l.self-inside.rest.now
