use Rattle.fc_timers.proofs.Calls.{length_in_order}
use Rattle.fc_timers.proofs.queue.TimerQueue.try_reserve.Goals as goal

pub returns-clause-room : goal.returns-clause-room
returns-clause-room g c =
    rw (← c.self.view_is, length_in_order g.T.Ord.cmp g.met.T.Ord.total c.self.inside.slots c.self.invariant) c.try_reserve.ensures.room

pub returns-clause-fits : goal.returns-clause-fits
returns-clause-fits g c =
    rw (← c.self.view_is, length_in_order g.T.Ord.cmp g.met.T.Ord.total c.self.inside.slots c.self.invariant) c.try_reserve.ensures.fits

pub returns-clause-full : goal.returns-clause-full
returns-clause-full g c =
    rw (← c.self.view_is, length_in_order g.T.Ord.cmp g.met.T.Ord.total c.self.inside.slots c.self.invariant) c.try_reserve.ensures.full

pub returns-clause-error : goal.returns-clause-error
returns-clause-error g c =
    rw (← c.self.view_is, length_in_order g.T.Ord.cmp g.met.T.Ord.total c.self.inside.slots c.self.invariant) c.try_reserve.ensures.error
