use Rattle.std.proofs.Common.{sym, ap, subst, ◌∙◌}
use Rattle.std.specs.Fn.{CalledAt}
use Rattle.fc_map.specs.Entries.{entries}
use Rattle.fc_set.specs.Retained.{RetainsItems, ExtractsItem, GivenItem}
use Rattle.fc_set.proofs.ItemFacts.{keys, items_within_keys, items_replacing_keys, ascending_keys}
use Rattle.fc_set.proofs.RetainedFacts.{items_extracted}
use Rattle.fc_set.proofs.set.BTreeSet.extract_range_if.Goals as goal

pub returns-clause-extracted : goal.returns-clause-extracted
returns-clause-extracted g c =
    let s = entries c.self.inside.map in
    let order = g.R.KeyRange.order in
    let v = c.extract_keys_range_if.ensures.extracted in
    let kept = items_extracted g.F.FnMut g.E.FnMut _ _ _ _ v.2 in
    let R = RetainsItems (ExtractsItem (CalledAt g.F.FnMut) (GivenItem g.E.FnMut)) in
    let asked = subst (λ x. R (c.args.pick, c.args.each) x v.0 (keys v.1)) (sym (items_within_keys order _ _ s)) kept in
    rw (← c.self.view_is) (v.0, keys v.1, asked, ap keys v.3 ∙ sym (items_replacing_keys order _ _ v.1 s))

pub returns-clause-ascending : goal.returns-clause-ascending
returns-clause-ascending g c = ascending_keys g.T.Ord.cmp _ c.extract_keys_range_if.ensures.ascending
