use Rattle.std.proofs.Common.{◌≡◌, set, get_or, Some, None, IsSome, refl, sym, ap, subst, ◌∙◌}
use Rattle.std.proofs.lemmas.List.{get_or-map, map-set}
use Rattle.std.specs.Prelude.{⊤}
use Rattle.fc_base.specs.Copies.{SameContents}
use Rattle.fc_timers.specs.CopiedSlots.{SameArmed}
use Rattle.fc_timers.specs.Heap.{helds}
use Rattle.fc_timers.specs.Values.{valued}
use Rattle.fc_timers.proofs.ListValues.{same_but_one}
use Rattle.fc_timers.proofs.slots.value.write_value.Goals as goal

pub returns-in-Some-clause-held : goal.returns-in-Some-clause-held
returns-in-Some-clause-held g c =
    let was = c.args.slots.now in
    let slot = c.args.slot in
    let here : get_or (helds was) slot None ≡ Some c.in-Some.armed =
    get_or-map (λ s. s.held) was slot c.index-slots-slot.result None c.requires.within ∙ c.in-Some.is in
    map-set (λ s. s.held) was slot _ ∙ (λ i. set (helds was) slot (Some (record c.in-Some.armed { value = c.replace.ensures.after i })))
    ∙ ap (λ h. set (helds was) slot (valued c.args.value h)) (sym here)

pub returns-in-Some-clause-kept : goal.returns-in-Some-clause-kept
returns-in-Some-clause-kept g c =
    same_but_one c.args.slots.now c.args.slot c.index-slots-slot.result _ c.requires.within (
      subst (λ h. SameContents (SameArmed (λ _ _. ⊤)) h (Some (record c.in-Some.armed { value = c.replace.new.dest }))) (sym c.in-Some.is)
          (refl, refl, refl, tt),
      refl,
    )

pub returns-in-None-clause-kept : goal.returns-in-None-clause-kept
returns-in-None-clause-kept g c =
    let none = get_or-map (λ s. s.held) c.args.slots.now c.args.slot c.index-slots-slot.result None c.requires.within ∙ c.in-None.is in
    let no = subst IsSome none c.requires.held in
    absurd cc
