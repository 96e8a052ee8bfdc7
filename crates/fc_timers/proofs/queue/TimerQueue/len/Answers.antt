use Rattle.std.proofs.Common.{◌∙◌, sym}
use Rattle.fc_timers.proofs.Apart.{turns_in_order}
use Rattle.fc_timers.proofs.Calls.{length_in_order, queue_in_order}
use Rattle.fc_timers.proofs.queue.TimerQueue.len.Goals as goal

pub returns-clause-value : goal.returns-clause-value
returns-clause-value g c =
    rw (← c.self.view_is) (c.len.ensures.value ∙ sym (length_in_order g.T.Ord.cmp g.met.T.Ord.total c.self.inside.slots c.self.invariant))

pub returns-clause-in_order : goal.returns-clause-in_order
returns-clause-in_order g c = rw (← c.self.view_is) (queue_in_order g.T.Ord.cmp g.met.T.Ord.total c.self.inside.slots _ c.self.invariant)

pub returns-clause-turns : goal.returns-clause-turns
returns-clause-turns g c = rw (← c.self.view_is) (turns_in_order g.T.Ord.cmp g.met.T.Ord.total c.self.inside.slots c.self.invariant)
