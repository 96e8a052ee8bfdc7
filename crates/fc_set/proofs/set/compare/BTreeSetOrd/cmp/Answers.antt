use Rattle.std.proofs.Common.{◌∙◌}
use Rattle.fc_map.specs.Entries.{entries}
use Rattle.fc_set.proofs.CompareFacts.{cmp_keys}
use Rattle.fc_set.proofs.set.compare.BTreeSetOrd.cmp.Goals as goal

pub returns : goal.returns
returns g c = rw (← c.self.view_is) (rw (← c.other.view_is) (c.cmp.ensures ∙ cmp_keys g.T.Ord.cmp (entries c.self.inside.map) (entries c.other.inside.map)))
