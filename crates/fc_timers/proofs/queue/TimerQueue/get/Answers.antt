use Rattle.std.proofs.Common.{None, Some}
use Rattle.fc_timers.proofs.Calls.{queue_in_order}
use Rattle.fc_timers.proofs.Thin.{told_as}
use Rattle.fc_timers.proofs.queue.TimerQueue.get.Goals as goal

pub returns-in_err-armed-clause-answer : goal.returns-in_err-armed-clause-answer
returns-in_err-armed-clause-answer g c =
    rw (← c.self.view_is, c.from_residual.ensures)
    (told_as g.T.Ord.cmp g.met.T.Ord.total c.self.inside.slots c.self.invariant c.args.timer None c.in_err-armed.ensures)

pub returns-clause-answer : goal.returns-clause-answer
returns-clause-answer g c =
    rw (← c.self.view_is)
    (told_as g.T.Ord.cmp g.met.T.Ord.total c.self.inside.slots c.self.invariant c.args.timer (Some c.in_ok-armed.armed.now) c.in_ok-armed.ensures)

pub returns-in_err-armed-clause-in_order : goal.returns-in_err-armed-clause-in_order
returns-in_err-armed-clause-in_order g c = rw (← c.self.view_is) (queue_in_order g.T.Ord.cmp g.met.T.Ord.total c.self.inside.slots _ c.self.invariant)

pub returns-clause-in_order : goal.returns-clause-in_order
returns-clause-in_order g c = rw (← c.self.view_is) (queue_in_order g.T.Ord.cmp g.met.T.Ord.total c.self.inside.slots _ c.self.invariant)
