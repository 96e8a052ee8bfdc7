use Rattle.std.proofs.Common.{◌∙◌}
use Rattle.fc_map.specs.Entries.{entries}
use Rattle.fc_set.proofs.CompareFacts.{eq_keys}
use Rattle.fc_set.proofs.set.compare.BTreeSetPartialEq.eq.Goals as goal

pub returns : goal.returns
returns g c = rw (← c.self.view_is) (rw (← c.other.view_is) (c.eq.ensures ∙ eq_keys g.T.PartialEq.eq (entries c.self.inside.map) (entries c.other.inside.map)))
