use Rattle.std.proofs.Common.{◌≡◌, is_lt, refl, sym, ap, subst, ◌∙◌}
use Rattle.std.specs.List.{AllByRecursion}
use Rattle.std.specs.declared.cmp.Ordering.TheVariants.{Less}
use Rattle.fc_map.specs.Entries.{entries, now_pair}
use Rattle.fc_map.proofs.ExtendFacts.{is_after_all}
use Rattle.fc_map.proofs.PopIfFacts.{last_none, last_some}
use Rattle.fc_map.proofs.map.BTreeMap.is_after_all.Goals as goal

pub returns-in-None : goal.returns-in-None
returns-in-None g c =
    let none = last_none _ (ap now_pair (sym c.in-None.is) ∙ c.last_key_value.ensures.pair) in
    (λ _. subst (AllByRecursion (λ e. g.K.Ord.cmp e.0 c.args.key.now ≡ Less)) (sym none) tt, λ _. refl)

pub returns-in-Some : goal.returns-in-Some
returns-in-Some g c =
    let k = c.in-Some.last in
    let v = c.in-Some._value in
    let r = last_some _ (k.now, v.now) (ap now_pair (sym c.in-Some.is) ∙ c.last_key_value.ensures.pair) in
    is_after_all g.K.Ord.cmp (entries c.args.self.now) r.0 (k.now, v.now) c.args.key.now c.is_lt.result g.met.K.Ord.total r.1
    c.last_key_value.ensures.ascending (c.is_lt.ensures ∙ ap is_lt c.cmp.ensures)
