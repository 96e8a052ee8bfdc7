use Rattle.std.proofs.Common.{◌-◌, length, slice_get, sym, ap, ◌∙◌}
use Rattle.std.specs.Option.{option_map}
use Rattle.fc_map.specs.Entries.{entries}
use Rattle.fc_set.proofs.ItemFacts.{keys, key_get, keys_length, ascending_keys}
use Rattle.fc_set.proofs.set.BTreeSet.last.Goals as goal

pub returns-clause-item : goal.returns-clause-item
returns-clause-item g c = rw (← c.self.view_is) (c.lent_item.ensures ∙ ap (option_map (λ e. e.0)) c.last_key_value.ensures.pair
    ∙ sym (key_get (entries c.self.inside.map) (length (entries c.self.inside.map) - 1))
    ∙ ap (λ n. slice_get (keys (entries c.self.inside.map)) (n - 1)) (sym (keys_length (entries c.self.inside.map))))

pub returns-clause-ascending : goal.returns-clause-ascending
returns-clause-ascending g c = rw (← c.self.view_is) (ascending_keys g.T.Ord.cmp _ c.last_key_value.ensures.ascending)
