use Rattle.fc_timers.proofs.Calls.{queue_in_order}
use Rattle.fc_timers.proofs.Thin.{head_time}
use Rattle.fc_timers.proofs.queue.TimerQueue.next_deadline.Goals as goal

pub returns-clause-answer : goal.returns-clause-answer
returns-clause-answer g c =
    rw (← c.self.view_is) (head_time g.T.Ord.cmp g.met.T.Ord.total c.self.inside.slots c.self.invariant _ c.next_deadline.ensures.none
    c.next_deadline.ensures.earliest)

pub returns-clause-in_order : goal.returns-clause-in_order
returns-clause-in_order g c = rw (← c.self.view_is) (queue_in_order g.T.Ord.cmp g.met.T.Ord.total c.self.inside.slots _ c.self.invariant)
