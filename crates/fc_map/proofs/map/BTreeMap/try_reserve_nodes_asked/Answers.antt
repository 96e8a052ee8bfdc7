use Rattle.fc_map.proofs.map.BTreeMap.try_reserve_nodes_asked.Goals as goal

pub returns-clause-pairs : goal.returns-clause-pairs
returns-clause-pairs g c = rw (← c.self.view_is) (rw (← c.self.invariant.2) c.try_new_asked.ensures.pairs)

pub returns-clause-overflow : goal.returns-clause-overflow
returns-clause-overflow g c = rw (← c.self.view_is) (rw (← c.self.invariant.2) c.try_new_asked.ensures.overflow)

pub returns-clause-requests : goal.returns-clause-requests
returns-clause-requests g c = rw (← c.self.view_is) (rw (← c.self.invariant.2) c.try_new_asked.ensures.requests)

pub returns-clause-at_most : goal.returns-clause-at_most
returns-clause-at_most g c = rw (← c.self.view_is) (rw (← c.self.invariant.2) c.try_new_asked.ensures.at_most)
