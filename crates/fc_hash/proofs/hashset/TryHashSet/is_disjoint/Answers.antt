use Rattle.fc_hash.proofs.hashset.TryHashSet.is_disjoint.Goals as goal

pub returns : goal.returns
returns g c = rw (← c.self.view_is) (rw (← c.other.view_is) c.is_disjoint.ensures)
