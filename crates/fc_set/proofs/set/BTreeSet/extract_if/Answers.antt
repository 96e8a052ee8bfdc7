use Rattle.fc_set.proofs.ItemFacts.{ascending_keys}
use Rattle.fc_set.proofs.RetainedFacts.{items_extracted}
use Rattle.fc_set.proofs.set.BTreeSet.extract_if.Goals as goal

pub returns-clause-extracted : goal.returns-clause-extracted
returns-clause-extracted g c = let v = rw c.self.view_is at c.extract_keys_if.ensures.extracted in (v.0, items_extracted g.F.FnMut g.E.FnMut _ _ _ _ v.1)

pub returns-clause-ascending : goal.returns-clause-ascending
returns-clause-ascending g c = ascending_keys g.T.Ord.cmp _ c.extract_keys_if.ensures.ascending
