use Rattle.std.proofs.Common.{None, Some, sym, ap, ◌∙◌}
use Rattle.fc_timers.specs.InOrder.{in_order}
use Rattle.fc_timers.proofs.Calls.{given_less, in_order_cancelled, length_in_order, queue_in_order}
use Rattle.fc_timers.proofs.Thin.{told_as, without_none}
use Rattle.fc_timers.proofs.queue.TimerQueue.cancel.Goals as goal

pub invariant_of-self : goal.invariant_of-self
invariant_of-self g c = given_less c.self.inside.slots c.cancel.new.self c.args.timer c.self.invariant c.cancel.ensures.changed c.cancel.ensures.number

pub invariant_of-self-2 : goal.invariant_of-self-2
invariant_of-self-2 g c = given_less c.self.inside.slots c.cancel.new.self c.args.timer c.self.invariant c.cancel.ensures.changed c.cancel.ensures.number

pub returns-in_err-armed-clause-answer : goal.returns-in_err-armed-clause-answer
returns-in_err-armed-clause-answer g c =
    rw (← c.self.view_is) (c.from_residual.ensures
    ∙ told_as g.T.Ord.cmp g.met.T.Ord.total c.self.inside.slots c.self.invariant c.args.timer None c.in_err-armed.ensures.answer)

pub returns-in_err-armed-clause-timers : goal.returns-in_err-armed-clause-timers
returns-in_err-armed-clause-timers g c =
    rw (← c.self.view_is) (ap (in_order g.T.Ord.cmp) c.in_err-armed.ensures.unchanged
    ∙ without_none g.T.Ord.cmp g.met.T.Ord.total c.self.inside.slots c.self.invariant c.args.timer (sym c.in_err-armed.ensures.answer))

pub returns-clause-answer : goal.returns-clause-answer
returns-clause-answer g c =
    rw (← c.self.view_is)
    (told_as g.T.Ord.cmp g.met.T.Ord.total c.self.inside.slots c.self.invariant c.args.timer (Some c.in_ok-armed.armed) c.in_ok-armed.ensures.answer)

pub returns-clause-timers : goal.returns-clause-timers
returns-clause-timers g c =
    rw (← c.self.view_is) (in_order_cancelled g.T.Ord.cmp g.met.T.Ord.total c.self.inside.slots c.cancel.new.self c.args.timer c.in_ok-armed.armed
    c.self.invariant (sym c.in_ok-armed.ensures.answer) c.cancel.ensures.changed)

pub returns-clause-count : goal.returns-clause-count
returns-clause-count g c =
    let total = g.met.T.Ord.total in
    let new = given_less c.self.inside.slots c.cancel.new.self c.args.timer c.self.invariant c.cancel.ensures.changed c.cancel.ensures.number in
    rw (
      ← c.self.view_is,
      length_in_order g.T.Ord.cmp total c.self.inside.slots c.self.invariant,
      length_in_order g.T.Ord.cmp total c.cancel.new.self new,
    ) c.in_ok-armed.ensures.count

pub returns-in_err-armed-clause-in_order : goal.returns-in_err-armed-clause-in_order
returns-in_err-armed-clause-in_order g c = rw (← c.self.view_is) (queue_in_order g.T.Ord.cmp g.met.T.Ord.total c.self.inside.slots _ c.self.invariant)

pub returns-clause-in_order : goal.returns-clause-in_order
returns-clause-in_order g c = rw (← c.self.view_is) (queue_in_order g.T.Ord.cmp g.met.T.Ord.total c.self.inside.slots _ c.self.invariant)
