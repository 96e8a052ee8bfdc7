use Rattle.fc_timers.proofs.Standing.{are_given_out}
use Rattle.fc_timers.proofs.slots.Slots.len.Goals as goal

pub returns-clause-given_out : goal.returns-clause-given_out
returns-clause-given_out g c = rw (← c.self.view_is) (are_given_out _ c.self.invariant.0.given_out)
