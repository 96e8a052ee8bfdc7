use Rattle.fc_hash.proofs.hashset.TryHashSet.is_subset.Goals as goal

pub returns : goal.returns
returns g c = rw (← c.self.view_is) (rw (← c.other.view_is) c.is_subset.ensures)
