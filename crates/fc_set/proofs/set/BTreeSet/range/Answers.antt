use Rattle.std.proofs.Common.{sym, ap, ◌∙◌}
use Rattle.fc_map.specs.Entries.{entries}
use Rattle.fc_set.proofs.ItemFacts.{keys, items_within_keys, ascending_keys}
use Rattle.fc_set.proofs.set.BTreeSet.range.Goals as goal

pub returns-clause-items : goal.returns-clause-items
returns-clause-items g c = rw (← c.self.view_is) (ap keys c.range.ensures.pairs ∙ sym (items_within_keys g.R.KeyRange.order _ _ (entries c.self.inside.map)))

pub returns-clause-ascending : goal.returns-clause-ascending
returns-clause-ascending g c = rw (← c.self.view_is) (ascending_keys g.T.Ord.cmp _ c.range.ensures.ascending)
