use Rattle.fc_set.proofs.ItemFacts.{ascending_keys}
use Rattle.fc_set.proofs.set.BTreeSet.len.Goals as goal

pub returns-clause-ascending : goal.returns-clause-ascending
returns-clause-ascending g c = rw (← c.self.view_is) (ascending_keys g.T.Ord.cmp _ c.len.ensures.ascending)
