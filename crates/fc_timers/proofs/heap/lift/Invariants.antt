use Rattle.std.proofs.Common.{◌≡◌, ◌-◌, length}
use Rattle.fc_timers.specs.declared.slot.Due.{Due}
use Rattle.fc_timers.specs.Heap.{AreVacantKept, IsOpen, helds, links}
use Rattle.fc_timers.proofs.heap.lift.Given as goal

abbrev pub invariant-down : goal.invariant-down
invariant-down g l = record {
  held : helds l.slots ≡ helds l.fn.slots;
  vacant : AreVacantKept l.slots (links l.fn.slots);
  len : length l.heap ≡ length l.fn.heap;
  gap : (d : Due g.row.T.Denot) → IsOpen g.T.Ord.cmp l.fn.slots l.fn.heap l.fn.place d → IsOpen g.T.Ord.cmp l.slots l.heap l.place d;
}

abbrev pub decreases-down : goal.decreases-down
decreases-down g l = length l.fn.heap - l.place
