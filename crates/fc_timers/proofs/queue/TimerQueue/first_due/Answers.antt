use Rattle.fc_timers.proofs.Calls.{queue_in_order}
use Rattle.fc_timers.proofs.Thin.{head_due, none_due}
use Rattle.fc_timers.proofs.queue.TimerQueue.first_due.Goals as goal

pub returns-clause-first : goal.returns-clause-first
returns-clause-first g c =
    rw (← c.self.view_is) (head_due g.T.Ord.cmp g.met.T.Ord.total c.self.inside.slots c.self.invariant _ c.first_due.ensures.first)

pub returns-clause-none : goal.returns-clause-none
returns-clause-none g c =
    rw (← c.self.view_is) (none_due g.T.Ord.cmp g.met.T.Ord.total c.self.inside.slots c.self.invariant _ c.args.now.now c.first_due.ensures.none)

pub returns-clause-in_order : goal.returns-clause-in_order
returns-clause-in_order g c = rw (← c.self.view_is) (queue_in_order g.T.Ord.cmp g.met.T.Ord.total c.self.inside.slots _ c.self.invariant)
