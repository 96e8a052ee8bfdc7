use Rattle.std.proofs.Common.{sym}
use Rattle.fc_timers.proofs.slots.Slots.next_deadline.Goals as goal

pub returns-clause-earliest : goal.returns-clause-earliest
returns-clause-earliest g c = let first = c.in_ok-first.ensures.earliest in (record { slot = _; number = _ }, first.armed, sym first.at, first.earliest)
