use Rattle.fc_map.specs.Entries.{entries}
use Rattle.fc_set.proofs.ItemFacts.{there_keys, ascending_keys}
use Rattle.fc_set.proofs.set.BTreeSet.contains_counted.Goals as goal

pub returns-clause-there : goal.returns-clause-there
returns-clause-there g c = rw (← c.self.view_is) (there_keys g.Q.Query.order (entries c.self.inside.map) (g.Q.Query.sought c.args.item)
    c.contains_key_counted.ensures.there)

pub returns-clause-ascending : goal.returns-clause-ascending
returns-clause-ascending g c = rw (← c.self.view_is) (ascending_keys g.T.Ord.cmp _ c.contains_key_counted.ensures.ascending)
