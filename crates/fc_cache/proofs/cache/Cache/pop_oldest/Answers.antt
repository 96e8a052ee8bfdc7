use Rattle.fc_cache.proofs.cache.Cache.pop_oldest.Goals as goal

pub returns-clause-oldest : goal.returns-clause-oldest
returns-clause-oldest g c = (c.in_ok-key.held.cost, rw (← c.self.view_is) c.in_ok-key.ensures.taken)
