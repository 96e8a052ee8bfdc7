use Rattle.fc_timers.specs.Slotted.{AreGivenOut}
use Rattle.fc_timers.proofs.Calls.{length_in_order, queue_in_order}
use Rattle.fc_timers.proofs.Thin.{contained, given_after_move, list_after_move, refused_move, time_after_move}
use Rattle.fc_timers.proofs.queue.TimerQueue.reschedule.Given as given
use Rattle.fc_timers.proofs.queue.TimerQueue.reschedule.Goals as goal

given_out : (g : given.Over) (c : goal.After-reschedule g) → AreGivenOut c.reschedule.new.self
given_out g c =
    given_after_move g.T.Ord.cmp g.met.T.Ord.total c.self.inside.slots c.reschedule.new.self c.self.invariant c.args.timer c.args.at c.reschedule.result
    c.reschedule.ensures.answer c.reschedule.ensures.moved c.reschedule.ensures.number c.reschedule.ensures.unchanged

pub invariant_of-self : goal.invariant_of-self
invariant_of-self g c = given_out g c

pub returns-clause-answer : goal.returns-clause-answer
returns-clause-answer g c =
    rw (← c.self.view_is) (time_after_move g.T.Ord.cmp g.met.T.Ord.total c.self.inside.slots c.reschedule.new.self c.self.invariant c.args.timer c.args.at
    c.reschedule.result c.reschedule.ensures.answer)

pub returns-clause-timers : goal.returns-clause-timers
returns-clause-timers g c =
    rw (← c.self.view_is) (list_after_move g.T.Ord.cmp g.met.T.Ord.total c.self.inside.slots c.reschedule.new.self c.self.invariant c.args.timer c.args.at
    c.reschedule.result c.reschedule.ensures.answer c.reschedule.ensures.moved)

pub returns-clause-count : goal.returns-clause-count
returns-clause-count g c =
    let total = g.met.T.Ord.total in
    rw (
      ← c.self.view_is,
      length_in_order g.T.Ord.cmp total c.self.inside.slots c.self.invariant,
      length_in_order g.T.Ord.cmp total c.reschedule.new.self (given_out g c),
    ) c.reschedule.ensures.count

pub returns-clause-refused : goal.returns-clause-refused
returns-clause-refused g c =
    rw (← c.self.view_is) (refused_move g.T.Ord.cmp g.met.T.Ord.total c.self.inside.slots c.reschedule.new.self c.self.invariant c.args.timer c.args.at _
    c.reschedule.result c.reschedule.ensures.refused)

pub returns-clause-error : goal.returns-clause-error
returns-clause-error g c =
    rw (← c.self.view_is, contained g.T.Ord.cmp g.met.T.Ord.total c.self.inside.slots c.self.invariant c.args.timer) c.reschedule.ensures.error

pub returns-clause-in_order : goal.returns-clause-in_order
returns-clause-in_order g c = rw (← c.self.view_is) (queue_in_order g.T.Ord.cmp g.met.T.Ord.total c.self.inside.slots _ c.self.invariant)
