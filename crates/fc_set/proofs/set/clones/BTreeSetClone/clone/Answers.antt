use Rattle.fc_map.specs.Entries.{entries}
use Rattle.fc_set.proofs.ItemFacts.{copied_keys}
use Rattle.fc_set.proofs.set.clones.BTreeSetClone.clone.Goals as goal

pub returns : goal.returns
returns g c = record {
  cases = rw (← c.self.view_is) (copied_keys g.T.Clone.is_clone _ (entries c.self.inside.map) _ c.in_ok-map.ensures.cases);
}
