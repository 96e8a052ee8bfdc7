use Rattle.std.proofs.Common.{◌≡◌, ◌<◌, ◌⊎◌, length}
use Rattle.std.specs.List.{slice_get}
use Rattle.fc_timers.specs.Heap.{AreVacantKept, IsOpen, IsOver, helds, links}
use Rattle.fc_timers.proofs.heap.rise.Given as goal

abbrev pub invariant-up : goal.invariant-up
invariant-up g l = record {
  held : helds l.slots ≡ helds l.fn.slots;
  vacant : AreVacantKept l.slots (links l.fn.slots);
  len : length l.heap ≡ length l.fn.heap;
  gap : IsOpen g.T.Ord.cmp l.slots l.heap l.place l.due;
  over : (l.place < l.fn.place) ⊎ IsOver g.T.Ord.cmp (slice_get l.fn.heap) l.fn.place l.due → IsOver g.T.Ord.cmp (slice_get l.heap) l.place l.due;
}

abbrev pub decreases-up : goal.decreases-up
decreases-up g l = l.place
