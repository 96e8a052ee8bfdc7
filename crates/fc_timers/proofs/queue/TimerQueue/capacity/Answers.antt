use Rattle.std.proofs.Common.{arith}
use Rattle.fc_timers.proofs.Calls.{length_in_order}
use Rattle.fc_timers.proofs.queue.TimerQueue.capacity.Goals as goal

pub returns-clause-holds_all : goal.returns-clause-holds_all
returns-clause-holds_all g c =
    rw (← c.self.view_is) (omega (arith, length_in_order g.T.Ord.cmp g.met.T.Ord.total c.self.inside.slots c.self.invariant, c.capacity.ensures.holds_all))
