use Rattle.fc_hash.proofs.hashset.copy.TryHashSetClone.clone.Goals as goal

pub returns : goal.returns
returns g c = rw (← c.self.view_is) c.in_ok-inner.ensures
