use Rattle.std.proofs.Common.{sym, ap, ◌∙◌}
use Rattle.std.specs.Option.{option_map}
use Rattle.fc_map.specs.Entries.{entries}
use Rattle.fc_set.proofs.ItemFacts.{key_get, ascending_keys}
use Rattle.fc_set.proofs.set.BTreeSet.first.Goals as goal

pub returns-clause-item : goal.returns-clause-item
returns-clause-item g c = rw (← c.self.view_is) (c.lent_item.ensures ∙ ap (option_map (λ e. e.0)) c.first_key_value.ensures.pair
    ∙ sym (key_get (entries c.self.inside.map) 0))

pub returns-clause-ascending : goal.returns-clause-ascending
returns-clause-ascending g c = rw (← c.self.view_is) (ascending_keys g.T.Ord.cmp _ c.first_key_value.ensures.ascending)
