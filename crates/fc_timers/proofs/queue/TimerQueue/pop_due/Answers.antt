use Rattle.std.proofs.Common.{sym, subst}
use Rattle.fc_timers.specs.Slotted.{AreGivenOut}
use Rattle.fc_timers.proofs.Calls.{given_less, in_order_popped, none_due_in_order, queue_in_order}
use Rattle.fc_timers.proofs.queue.TimerQueue.pop_due.Goals as goal

pub invariant_of-self : goal.invariant_of-self
invariant_of-self g c = subst AreGivenOut (sym c.in_err-timer.ensures.unchanged) c.self.invariant

pub invariant_of-self-2 : goal.invariant_of-self-2
invariant_of-self-2 g c =
    given_less c.self.inside.slots c.pop_due.new.self c.in_ok-timer.timer c.self.invariant c.in_ok-timer.ensures.popped.changed c.pop_due.ensures.number

pub returns-in_err-timer-clause-none : goal.returns-in_err-timer-clause-none
returns-in_err-timer-clause-none g c =
    rw (← c.self.view_is, c.from_residual.ensures)
    (none_due_in_order g.T.Ord.cmp g.met.T.Ord.total c.self.inside.slots c.args.now.now c.self.invariant c.in_err-timer.ensures.none)

pub returns-clause-popped : goal.returns-clause-popped
returns-clause-popped g c =
    rw (← c.self.view_is) (
      c.in_ok-timer.armed.turn,
      in_order_popped g.T.Ord.cmp g.met.T.Ord.total c.self.inside.slots c.pop_due.new.self c.args.now.now c.in_ok-timer.timer
          c.in_ok-timer.armed c.self.invariant c.in_ok-timer.ensures.popped,
    )

pub returns-in_err-timer-clause-in_order : goal.returns-in_err-timer-clause-in_order
returns-in_err-timer-clause-in_order g c = rw (← c.self.view_is) (queue_in_order g.T.Ord.cmp g.met.T.Ord.total c.self.inside.slots _ c.self.invariant)

pub returns-clause-in_order : goal.returns-clause-in_order
returns-clause-in_order g c = rw (← c.self.view_is) (queue_in_order g.T.Ord.cmp g.met.T.Ord.total c.self.inside.slots _ c.self.invariant)
