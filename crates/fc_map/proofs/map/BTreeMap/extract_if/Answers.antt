use Rattle.fc_map.proofs.map.BTreeMap.extract_if.Goals as goal

pub invariant_of-self : goal.invariant_of-self
invariant_of-self g c = let v = c.extract_if-self-inside.ensures in (v.ascending g.K.Ord.cmp c.self.invariant.0, v.sound, v.length)

pub returns-clause-extracted : goal.returns-clause-extracted
returns-clause-extracted g c = rw c.self.view_is at c.extract_if-self-inside.ensures.extracted

pub returns-clause-ascending : goal.returns-clause-ascending
returns-clause-ascending g c = c.extract_if-self-inside.ensures.ascending g.K.Ord.cmp c.self.invariant.0
