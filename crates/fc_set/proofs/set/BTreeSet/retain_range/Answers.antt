use Rattle.std.proofs.Common.{sym, ap, subst, ◌∙◌}
use Rattle.std.specs.Fn.{CalledAt}
use Rattle.fc_map.specs.Entries.{entries}
use Rattle.fc_set.specs.Retained.{RetainsItems}
use Rattle.fc_set.proofs.ItemFacts.{keys, items_within_keys, items_replacing_keys, ascending_keys}
use Rattle.fc_set.proofs.RetainedFacts.{items_retained}
use Rattle.fc_set.proofs.set.BTreeSet.retain_range.Goals as goal

pub returns-clause-retained : goal.returns-clause-retained
returns-clause-retained g c =
    let s = entries c.self.inside.map in
    let order = g.R.KeyRange.order in
    let v = c.retain_keys_range.ensures.retained in
    let kept = items_retained g.F.FnMut _ _ _ _ v.2 in
    let asked = subst (λ x. RetainsItems (CalledAt g.F.FnMut) c.args.f x v.0 (keys v.1)) (sym (items_within_keys order _ _ s)) kept in
    rw (← c.self.view_is) (v.0, keys v.1, asked, ap keys v.3 ∙ sym (items_replacing_keys order _ _ v.1 s))

pub returns-clause-ascending : goal.returns-clause-ascending
returns-clause-ascending g c = ascending_keys g.T.Ord.cmp _ c.retain_keys_range.ensures.ascending
