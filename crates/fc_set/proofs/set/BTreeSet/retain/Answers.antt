use Rattle.fc_set.proofs.ItemFacts.{ascending_keys}
use Rattle.fc_set.proofs.RetainedFacts.{items_retained}
use Rattle.fc_set.proofs.set.BTreeSet.retain.Goals as goal

pub returns-clause-retained : goal.returns-clause-retained
returns-clause-retained g c = let v = rw c.self.view_is at c.retain_keys.ensures.retained in (v.0, items_retained g.F.FnMut _ _ _ _ v.1)

pub returns-clause-ascending : goal.returns-clause-ascending
returns-clause-ascending g c = ascending_keys g.T.Ord.cmp _ c.retain_keys.ensures.ascending
