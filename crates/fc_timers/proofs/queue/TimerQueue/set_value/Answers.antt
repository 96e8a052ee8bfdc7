use Rattle.fc_timers.proofs.Calls.{queue_in_order}
use Rattle.fc_timers.proofs.ListValues.{list_with_value, none_of_value, value_was}
use Rattle.fc_timers.proofs.queue.TimerQueue.set_value.Goals as goal

pub invariant_of-self : goal.invariant_of-self
invariant_of-self g c = c.set_value.ensures.given_out

pub returns-clause-answer : goal.returns-clause-answer
returns-clause-answer g c =
    rw (← c.self.view_is) (value_was g.T.Ord.cmp g.met.T.Ord.total c.self.inside.slots c.self.invariant c.args.timer c.set_value.result
    c.set_value.ensures.answer)

pub returns-clause-timers : goal.returns-clause-timers
returns-clause-timers g c =
    rw (← c.self.view_is) (list_with_value g.T.Ord.cmp g.met.T.Ord.total c.self.inside.slots c.self.invariant c.args.timer c.set_value.new.self c.args.value
    c.set_value.result c.set_value.ensures.answer c.set_value.ensures.slots)

pub returns-clause-refused : goal.returns-clause-refused
returns-clause-refused g c =
    rw (← c.self.view_is) (none_of_value g.T.Ord.cmp g.met.T.Ord.total c.self.inside.slots c.self.invariant c.args.timer c.set_value.result
    c.set_value.ensures.refused)

pub returns-clause-in_order : goal.returns-clause-in_order
returns-clause-in_order g c = rw (← c.self.view_is) (queue_in_order g.T.Ord.cmp g.met.T.Ord.total c.self.inside.slots _ c.self.invariant)
