use Rattle.std.proofs.Common.{◌≡◌, ◌∙◌, [], refl, sym, ap, subst}
use Rattle.std.specs.Prelude.{IfSome}
use Rattle.std.specs.Map.Calls.{MayWrite, ModifiesValue}
use Rattle.fc_map.specs.Entries.{entries}
use Rattle.fc_map.specs.Entry.{entry_key, entry_value, list_with, list_without, map_written}
use Rattle.fc_map.proofs.EntryFacts.{rewritten}
use Rattle.fc_map.proofs.map.entry.Entry.and_modify.Goals as goal

at_both : {X : Type 0} (P : X → X → Type 0) (p q a b : X) → p ≡ a → q ≡ b → P a b → P p q
at_both P p q a b x y h = subst (λ r. P r q) (sym x) (subst (P a) (sym y) h)

pub returns-in-Occupied-clause-update : goal.returns-in-Occupied-clause-update
returns-in-Occupied-clause-update g c =
    let o = c.in-Occupied.entry in
    let u = c.modify.new.arg2 in
    let old = ap entry_value c.in-Occupied.is ∙ c.get_mut.ensures.value in
    let did : MayWrite g.F.FnOnce c.args.modify c.get_mut.result.now u
    = record { lent = c.get_mut.result; result = c.modify.result; left = _; before = refl; met = c.modify.ensures; after = refl } in
    at_both (ModifiesValue g.F.FnOnce c.args.modify) _ _ _ _ old (rewritten o.map.now o.path u c.get_mut.ensures.sound (o.place [])).value_is did

pub returns-in-Occupied-clause-key : goal.returns-in-Occupied-clause-key
returns-in-Occupied-clause-key g c =
    let o = c.in-Occupied.entry in
    (rewritten o.map.now o.path c.modify.new.arg2 c.get_mut.ensures.sound (o.place [])).key_is ∙ sym (ap entry_key c.in-Occupied.is)

pub returns-in-Occupied-clause-writes : goal.returns-in-Occupied-clause-writes
returns-in-Occupied-clause-writes g c = λ w.
    let o = c.in-Occupied.entry in
    (rewritten o.map.now o.path c.modify.new.arg2 c.get_mut.ensures.sound (o.place [])).again w ∙ sym (ap (λ e. list_with e w) c.in-Occupied.is)

pub returns-in-Occupied-clause-removes : goal.returns-in-Occupied-clause-removes
returns-in-Occupied-clause-removes g c =
    let o = c.in-Occupied.entry in
    (rewritten o.map.now o.path c.modify.new.arg2 c.get_mut.ensures.sound (o.place [])).sides ∙ sym (ap list_without c.in-Occupied.is)

pub returns-in-Occupied-clause-map : goal.returns-in-Occupied-clause-map
returns-in-Occupied-clause-map g c =
    let o = c.in-Occupied.entry in
    let u = c.modify.new.arg2 in
    subst (λ x. IfSome x (λ w. entries (map_written o u) ≡ list_with c.args.self w))
    (sym (rewritten o.map.now o.path u c.get_mut.ensures.sound (o.place [])).value_is) (sym (ap (λ e. list_with e u) c.in-Occupied.is))
