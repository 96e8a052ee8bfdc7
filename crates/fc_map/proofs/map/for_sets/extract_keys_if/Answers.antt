use Rattle.fc_map.proofs.map.for_sets.extract_keys_if.Goals as goal

pub invariant_of-map : goal.invariant_of-map
invariant_of-map g c = let v = c.extract_keys_if-map-inside.ensures in (v.ascending g.K.Ord.cmp c.map.invariant.0, v.sound, v.length)

pub returns-clause-extracted : goal.returns-clause-extracted
returns-clause-extracted g c = rw c.map.view_is at c.extract_keys_if-map-inside.ensures.extracted

pub returns-clause-ascending : goal.returns-clause-ascending
returns-clause-ascending g c = c.extract_keys_if-map-inside.ensures.ascending g.K.Ord.cmp c.map.invariant.0
