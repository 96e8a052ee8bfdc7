use Rattle.std.proofs.Common.{◌∙◌}
use Rattle.fc_hash.proofs.EqualFacts.{entries_eq_is}
use Rattle.fc_hash.proofs.hashmap.compare.TryHashMapPartialEq.eq.Goals as goal

pub returns : goal.returns
returns g c =
    rw (← c.self.view_is) (rw (← c.other.view_is) (c.eq.ensures ∙ entries_eq_is g.K.PartialEq.eq g.V.PartialEq.eq c.self.inside.inner.entries
    c.other.inside.inner.entries))
