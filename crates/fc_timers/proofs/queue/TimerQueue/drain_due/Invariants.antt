use Rattle.std.proofs.Common.{◌≡◌, length}
use denote.Param.Always.{always_mut}
use Rattle.fc_timers.specs.Timers.{GivenTimer, IsInOrder}
use Rattle.fc_timers.proofs.Drained.{IsDrained}
use Rattle.fc_timers.proofs.queue.TimerQueue.drain_due.Given as goal

abbrev pub invariant-due : goal.invariant-due
invariant-due g l = record {
  callable : always_mut g.F.FnMut l.f;
  drained : IsDrained g.T.Ord.cmp (GivenTimer g.F.FnMut) l.now l.initial.f l.f l.initial.self.timers l.self.timers;
  order : IsInOrder g.T.Ord.cmp l.self → IsInOrder g.T.Ord.cmp l.initial.self;
  turn : l.self.next_turn ≡ l.initial.self.next_turn;
  room : l.self.room ≡ l.initial.self.room;
}

abbrev pub decreases-due : goal.decreases-due
decreases-due g l = length l.self.timers
