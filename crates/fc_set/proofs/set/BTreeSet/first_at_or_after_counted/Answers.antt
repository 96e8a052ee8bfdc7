use Rattle.std.proofs.Common.{sym, ap, ◌∙◌}
use Rattle.std.specs.Option.{option_map}
use Rattle.fc_map.specs.Entries.{entries}
use Rattle.fc_set.proofs.ItemFacts.{ascending_keys}
use Rattle.fc_set.proofs.NeighbourFacts.{first_from_keys}
use Rattle.fc_set.proofs.set.BTreeSet.first_at_or_after_counted.Goals as goal

pub returns-clause-item : goal.returns-clause-item
returns-clause-item g c = rw (← c.self.view_is) (c.lent_item.ensures ∙ ap (option_map (λ e. e.0)) c.first_at_or_after_counted.ensures.pair
    ∙ sym (first_from_keys g.Q.Query.order (entries c.self.inside.map) (g.Q.Query.sought c.args.item)))

pub returns-clause-ascending : goal.returns-clause-ascending
returns-clause-ascending g c = rw (← c.self.view_is) (ascending_keys g.T.Ord.cmp _ c.first_at_or_after_counted.ensures.ascending)
