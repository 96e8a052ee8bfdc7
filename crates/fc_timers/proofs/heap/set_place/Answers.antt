use Rattle.fc_timers.proofs.heap.set_place.Goals as goal

pub returns-clause-held : goal.returns-clause-held
returns-clause-held g c = c.lead.ensures.held

pub returns-clause-link : goal.returns-clause-link
returns-clause-link g c = c.lead.ensures.link
