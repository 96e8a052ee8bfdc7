use Rattle.std.proofs.Common.{◌∙◌}
use Rattle.fc_map.specs.Entries.{entries}
use Rattle.fc_set.proofs.CompareFacts.{partial_cmp_keys}
use Rattle.fc_set.proofs.set.compare.BTreeSetPartialOrd.partial_cmp.Goals as goal

pub returns : goal.returns
returns g c = rw (← c.self.view_is) (rw (← c.other.view_is) (c.partial_cmp.ensures
    ∙ partial_cmp_keys g.T.PartialOrd.partial_cmp (entries c.self.inside.map) (entries c.other.inside.map)))
