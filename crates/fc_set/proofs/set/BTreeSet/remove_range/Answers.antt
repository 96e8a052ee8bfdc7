use Rattle.std.proofs.Common.{length, sym, ap, ◌∙◌}
use Rattle.std.proofs.lemmas.List.{length-map}
use Rattle.fc_base.specs.Ranges.{within}
use Rattle.fc_map.specs.Entries.{entries}
use Rattle.fc_set.proofs.ItemFacts.{keys, items_within_keys, items_outside_keys, ascending_keys}
use Rattle.fc_set.proofs.set.BTreeSet.remove_range.Goals as goal

pub returns-clause-rest : goal.returns-clause-rest
returns-clause-rest g c =
    rw (← c.self.view_is) (ap keys c.remove_range.ensures.rest ∙ sym (items_outside_keys g.R.KeyRange.order _ _ (entries c.self.inside.map)))

pub returns-clause-count : goal.returns-clause-count
returns-clause-count g c =
    let s = entries c.self.inside.map in
    let pairs = within g.R.KeyRange.order (g.R.KeyRange.start c.args.bounds) (g.R.KeyRange.end c.args.bounds) s in
    rw (← c.self.view_is) (c.remove_range.ensures.count ∙ sym (ap length (items_within_keys g.R.KeyRange.order _ _ s) ∙ length-map pairs (λ e. e.0)))

pub returns-clause-ascending : goal.returns-clause-ascending
returns-clause-ascending g c = ascending_keys g.T.Ord.cmp _ c.remove_range.ensures.ascending
