use Rattle.std.proofs.Common.{length, get_or, set, None, IsSome, refl, sym, ap, subst, ◌∙◌, arith}
use Rattle.std.proofs.lemmas.List.{length-map, with_items_is}
use Rattle.std.specs.List.{AllZip}
use Rattle.std.specs.Option.{option_map}
use Rattle.std.specs.Prelude.{⊤}
use Rattle.fc_timers.specs.CopiedSlots.{SameSlot}
use Rattle.fc_timers.specs.Heap.{helds}
use Rattle.fc_timers.specs.Values.{valued}
use Rattle.fc_timers.proofs.Kept.{within_slot}
use Rattle.fc_timers.proofs.ListValues.{lent_there}
use Rattle.fc_timers.proofs.SoundCopies.{slots_copied, sound_copied}
use Rattle.fc_timers.proofs.Standing.{are_given_out}
use Rattle.fc_timers.proofs.slots.Slots.set_value.Goals as goal

pub write_value-requires-clause-within : goal.write_value-requires-clause-within
write_value-requires-clause-within g c =
    let slots = c.self.inside.slots.items in
    let there = lent_there c.args.self.now c.args.timer _ _ c.get.ensures c.in-Some.is in
    let held = ap (λ q. get_or q.slots c.args.timer.slot None) c.self.view_is ∙ there.1 in
    omega (arith, length-map slots (λ s. s.held), within_slot (helds slots) c.args.timer.slot _ held, ap length c.as_mut_slice.ensures.value)

pub write_value-requires-clause-held : goal.write_value-requires-clause-held
write_value-requires-clause-held g c =
    let there = lent_there c.args.self.now c.args.timer _ _ c.get.ensures c.in-Some.is in
    let held = ap (λ q. get_or q.slots c.args.timer.slot None) c.self.view_is ∙ there.1 in
    subst (λ l. IsSome (get_or (helds l) c.args.timer.slot None)) (sym c.as_mut_slice.ensures.value) (subst IsSome (sym held) refl)

pub invariant_of-self : goal.invariant_of-self
invariant_of-self g c =
    let slots = c.self.inside.slots.items in
    let now = c.write_value.new.slots in
    let same = subst (λ l. AllZip (SameSlot (λ _ _. ⊤)) l now) c.as_mut_slice.ensures.value c.write_value.ensures.kept in
    rw (with_items_is c.self.inside.slots now (omega arith))
    (sound_copied (λ _ _. ⊤) slots now same _ _ _ c.self.invariant.0, omega (arith, slots_copied (λ _ _. ⊤) slots now same, c.self.invariant.1))

pub returns-in-Some-clause-answer : goal.returns-in-Some-clause-answer
returns-in-Some-clause-answer g c =
    let lent = lent_there c.args.self.now c.args.timer _ _ c.get.ensures c.in-Some.is in
    let held = ap (λ l. get_or (helds l) c.args.timer.slot None) c.as_mut_slice.ensures.value
    ∙ ap (λ q. get_or q.slots c.args.timer.slot None) c.self.view_is ∙ lent.1 in
    ap (option_map (λ a. a.value)) (lent.0 ∙ sym held) ∙ c.write_value.ensures.answer

pub returns-in-Some-clause-slots : goal.returns-in-Some-clause-slots
returns-in-Some-clause-slots g c =
    let slot = c.args.timer.slot in
    let value = c.args.value in
    let lent = lent_there c.args.self.now c.args.timer _ _ c.get.ensures c.in-Some.is in
    rw (with_items_is c.self.inside.slots c.write_value.new.slots (omega arith))
    (c.write_value.ensures.held ∙ ap (λ l. set (helds l) slot (valued value (get_or (helds l) slot None))) c.as_mut_slice.ensures.value
    ∙ ap (λ q. set q.slots slot (valued value (get_or q.slots slot None))) c.self.view_is
    ∙ ap (λ o. set c.args.self.now.slots slot (valued value o)) (lent.1 ∙ sym lent.0))

pub returns-in-Some-clause-given_out : goal.returns-in-Some-clause-given_out
returns-in-Some-clause-given_out g c = are_given_out _ (invariant_of-self g c).0.given_out

pub returns-in-None-clause-given_out : goal.returns-in-None-clause-given_out
returns-in-None-clause-given_out g c = rw (← c.self.view_is) (are_given_out _ c.self.invariant.0.given_out)
