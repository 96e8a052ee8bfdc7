use Rattle.std.proofs.Common.{sym, ◌∙◌}
use Rattle.fc_timers.proofs.Calls.{queue_in_order}
use Rattle.fc_timers.proofs.Thin.{contained}
use Rattle.fc_timers.proofs.queue.TimerQueue.contains.Goals as goal

pub returns-clause-answer : goal.returns-clause-answer
returns-clause-answer g c =
    rw (← c.self.view_is) (c.contains.ensures ∙ sym (contained g.T.Ord.cmp g.met.T.Ord.total c.self.inside.slots c.self.invariant c.args.timer))

pub returns-clause-in_order : goal.returns-clause-in_order
returns-clause-in_order g c = rw (← c.self.view_is) (queue_in_order g.T.Ord.cmp g.met.T.Ord.total c.self.inside.slots _ c.self.invariant)
