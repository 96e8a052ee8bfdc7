use Rattle.std.proofs.Common.{inl, inr, refl, ap, sym, subst, ◌∙◌}
use Rattle.fc_map.specs.Entries.{now_pair}
use Rattle.fc_map.specs.PopIf.{AskedOnceAtPair}
use Rattle.fc_map.proofs.PopIfFacts.{last_none, last_some}
use Rattle.fc_map.proofs.map.BTreeMap.is_last_picked.Goals as goal

pub returns-in-None-clause-no : goal.returns-in-None-clause-no
returns-in-None-clause-no g c = λ _. inl (last_none _ (ap now_pair (sym c.in-None.is) ∙ c.last_key_value.ensures.pair))

pub returns-in-Some-clause-no : goal.returns-in-Some-clause-no
returns-in-Some-clause-no g c = λ e.
    let k = c.in-Some.key in
    let v = c.in-Some.value in
    let r = last_some _ (k.now, v.now) (ap now_pair (sym c.in-Some.is) ∙ c.last_key_value.ensures.pair) in
    let asked : AskedOnceAtPair g.F.FnOnce c.args.f (k.now, v.now) c.f.result = record { key = k; value = v; shows = (refl, refl); called = c.f.ensures } in
    inr ((k.now, v.now), r.0, r.1, subst (AskedOnceAtPair g.F.FnOnce c.args.f (k.now, v.now)) e asked)

pub returns-in-Some-clause-yes : goal.returns-in-Some-clause-yes
returns-in-Some-clause-yes g c = λ e.
    let k = c.in-Some.key in
    let v = c.in-Some.value in
    let r = last_some _ (k.now, v.now) (ap now_pair (sym c.in-Some.is) ∙ c.last_key_value.ensures.pair) in
    let asked : AskedOnceAtPair g.F.FnOnce c.args.f (k.now, v.now) c.f.result = record { key = k; value = v; shows = (refl, refl); called = c.f.ensures } in
    ((k.now, v.now), r.0, r.1, subst (AskedOnceAtPair g.F.FnOnce c.args.f (k.now, v.now)) e asked)
