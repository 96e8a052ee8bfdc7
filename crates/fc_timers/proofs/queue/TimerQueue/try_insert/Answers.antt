use Rattle.fc_timers.specs.Slotted.{AreGivenOut}
use Rattle.fc_timers.proofs.Calls.{length_in_order, queue_in_order}
use Rattle.fc_timers.proofs.Thin.{fresh_in_list, given_after_insertion, list_after_insertion}
use Rattle.fc_timers.proofs.queue.TimerQueue.try_insert.Given as given
use Rattle.fc_timers.proofs.queue.TimerQueue.try_insert.Goals as goal

given_out : (g : given.Over) (c : goal.After-try_insert g) → AreGivenOut c.try_insert.new.self
given_out g c =
    given_after_insertion g.T.Ord.cmp g.met.T.Ord.total c.self.inside.slots c.try_insert.new.self c.self.invariant c.try_insert.result c.args.at c.args.value
    c.try_insert.ensures.inserted c.try_insert.ensures.timer c.try_insert.ensures.number c.try_insert.ensures.unchanged

pub invariant_of-self : goal.invariant_of-self
invariant_of-self g c = given_out g c

pub returns-clause-timers : goal.returns-clause-timers
returns-clause-timers g c =
    rw (← c.self.view_is) (list_after_insertion g.T.Ord.cmp g.met.T.Ord.total c.self.inside.slots c.try_insert.new.self c.self.invariant c.try_insert.result
    c.args.at c.args.value c.try_insert.ensures.inserted c.try_insert.ensures.fresh)

pub returns-clause-fresh : goal.returns-clause-fresh
returns-clause-fresh g c =
    rw (← c.self.view_is) (fresh_in_list g.T.Ord.cmp g.met.T.Ord.total c.self.inside.slots c.try_insert.new.self c.self.invariant c.try_insert.result
    c.try_insert.ensures.fresh)

pub returns-clause-count : goal.returns-clause-count
returns-clause-count g c =
    let total = g.met.T.Ord.total in
    rw (
      ← c.self.view_is,
      length_in_order g.T.Ord.cmp total c.self.inside.slots c.self.invariant,
      length_in_order g.T.Ord.cmp total c.try_insert.new.self (given_out g c),
    ) c.try_insert.ensures.count

pub returns-clause-fits : goal.returns-clause-fits
returns-clause-fits g c =
    rw (← c.self.view_is, length_in_order g.T.Ord.cmp g.met.T.Ord.total c.self.inside.slots c.self.invariant) c.try_insert.ensures.fits

pub returns-clause-in_order : goal.returns-clause-in_order
returns-clause-in_order g c = rw (← c.self.view_is) (queue_in_order g.T.Ord.cmp g.met.T.Ord.total c.self.inside.slots _ c.self.invariant)
