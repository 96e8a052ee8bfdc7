use Rattle.std.proofs.Common.{◌≡◌, ◌-◌, length}
use Rattle.std.specs.List.{slice_get}
use Rattle.fc_timers.specs.Heap.{AreVacantKept, IsOpen, IsUnder, helds, links}
use Rattle.fc_timers.proofs.heap.sink.Given as goal

abbrev pub invariant-down : goal.invariant-down
invariant-down g l = record {
  held : helds l.slots ≡ helds l.fn.slots;
  vacant : AreVacantKept l.slots (links l.fn.slots);
  len : length l.heap ≡ length l.fn.heap;
  gap : IsOpen g.T.Ord.cmp l.slots l.heap l.place l.due;
  under : IsUnder g.T.Ord.cmp (slice_get l.heap) l.place l.due;
}

abbrev pub decreases-down : goal.decreases-down
decreases-down g l = length l.fn.heap - l.place
