use Rattle.fc_timers.proofs.Calls.{in_order_popped, queue_in_order}
use Rattle.fc_timers.proofs.Thin.{no_timers}
use Rattle.fc_timers.proofs.queue.TimerQueue.pop_first.Goals as goal

pub returns-in_err-timer-clause-none : goal.returns-in_err-timer-clause-none
returns-in_err-timer-clause-none g c =
    rw (← c.self.view_is, c.from_residual.ensures) (no_timers g.T.Ord.cmp g.met.T.Ord.total c.self.inside.slots c.self.invariant c.in_err-timer.ensures.none)

pub returns-in_err-timer-clause-in_order : goal.returns-in_err-timer-clause-in_order
returns-in_err-timer-clause-in_order g c =
    rw (← c.self.view_is) (queue_in_order g.T.Ord.cmp g.met.T.Ord.total c.self.inside.slots _ c.self.invariant)

pub returns-clause-popped : goal.returns-clause-popped
returns-clause-popped g c =
    rw (← c.self.view_is) (
      c.in_ok-timer.armed.turn,
      in_order_popped g.T.Ord.cmp g.met.T.Ord.total c.self.inside.slots c.pop_first.new.self c.in_ok-timer.armed.at c.in_ok-timer.timer
          c.in_ok-timer.armed c.self.invariant c.in_ok-timer.ensures.popped,
    )

pub returns-clause-in_order : goal.returns-clause-in_order
returns-clause-in_order g c = rw (← c.self.view_is) (queue_in_order g.T.Ord.cmp g.met.T.Ord.total c.self.inside.slots _ c.self.invariant)
