use Rattle.std.proofs.Common.{sym, ap, ◌∙◌}
use Rattle.std.specs.Option.{option_map}
use Rattle.fc_map.specs.Entries.{entries}
use Rattle.fc_set.proofs.ItemFacts.{ascending_keys}
use Rattle.fc_set.proofs.NeighbourFacts.{last_before_keys}
use Rattle.fc_set.proofs.set.BTreeSet.last_before_counted.Goals as goal

pub returns-clause-item : goal.returns-clause-item
returns-clause-item g c = rw (← c.self.view_is) (c.lent_item.ensures ∙ ap (option_map (λ e. e.0)) c.last_before_counted.ensures.pair
    ∙ sym (last_before_keys g.Q.Query.order (entries c.self.inside.map) (g.Q.Query.sought c.args.item)))

pub returns-clause-ascending : goal.returns-clause-ascending
returns-clause-ascending g c = rw (← c.self.view_is) (ascending_keys g.T.Ord.cmp _ c.last_before_counted.ensures.ascending)
