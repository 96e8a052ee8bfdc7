use Rattle.fc_map.proofs.map.BTreeMap.retain.Goals as goal

pub invariant_of-self : goal.invariant_of-self
invariant_of-self g c = let v = c.retain-self-inside.ensures in (v.ascending g.K.Ord.cmp c.self.invariant.0, v.sound, v.length)

pub returns-clause-ascending : goal.returns-clause-ascending
returns-clause-ascending g c = c.retain-self-inside.ensures.ascending g.K.Ord.cmp c.self.invariant.0
