use Rattle.fc_map.proofs.map.for_sets.retain_keys.Goals as goal

pub invariant_of-map : goal.invariant_of-map
invariant_of-map g c = let v = c.retain_keys-map-inside.ensures in (v.ascending g.K.Ord.cmp c.map.invariant.0, v.sound, v.length)

pub returns-clause-ascending : goal.returns-clause-ascending
returns-clause-ascending g c = c.retain_keys-map-inside.ensures.ascending g.K.Ord.cmp c.map.invariant.0
