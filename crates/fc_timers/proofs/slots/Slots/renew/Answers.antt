use Rattle.std.proofs.Common.{◌≡◌, ◌<◌, length, get_or, set, Some, None, IsSome, refl, sym, subst, ap, ◌∙◌, arith}
use Rattle.std.proofs.lemmas.List.{length-map, with_items_is}
use Rattle.fc_timers.specs.declared.timer.Armed.{Armed}
use Rattle.fc_timers.specs.Slotted.{renewed}
use Rattle.fc_timers.specs.Heap.{AreVacantKept, helds, links}
use Rattle.fc_timers.proofs.Kept.{slots_kept, sound_renewed, there, within_slot}
use Rattle.fc_timers.proofs.slots.Slots.renew.Goals as goal

pub retime-requires-clause-held : goal.retime-requires-clause-held
retime-requires-clause-held g c =
    subst (λ l. IsSome (get_or (helds l) c.args.slot None)) (sym c.as_mut_slice.ensures.value) (rw (← c.self.view_is) at c.requires.held)

pub retime-requires-clause-heap : goal.retime-requires-clause-heap
retime-requires-clause-heap g c = rw (c.as_mut_slice.ensures.value, c.as_mut_slice-2.ensures.value) c.self.invariant.0.heaped

pub invariant_of-self : goal.invariant_of-self
invariant_of-self g c =
    let slots = c.self.inside.slots.items in
    let next = c.self.inside.next_number in
    let old = there _ (rw (← c.self.view_is) at c.requires.held) in
    let new : Armed g.row.T.Denot g.row.V.Denot = record { at = c.args.at; turn = next; number = old.0.number; value = old.0.value } in
    let held : get_or (helds slots) c.args.slot None ≡ Some old.0 = old.1 in
    let within : c.args.slot < length slots = omega (arith, length-map slots (λ s. s.held), within_slot (helds slots) c.args.slot old.0 held) in
    let written : helds c.retime.new.slots ≡ set (helds slots) c.args.slot (Some new) =
    c.retime.ensures.held ∙ ap (λ l. set (helds l) c.args.slot (renewed c.args.at next (get_or (helds l) c.args.slot None))) c.as_mut_slice.ensures.value
    ∙ ap (λ h. set (helds slots) c.args.slot (renewed c.args.at next h)) held in
    let led : AreVacantKept c.retime.new.slots (links slots) =
    λ k none. c.retime.ensures.vacant k none ∙ ap (λ l. get_or (links l) k 0) c.as_mut_slice.ensures.value in
    let heap = c.self.inside.heap in
    let length_heap = c.retime.ensures.len ∙ ap length c.as_mut_slice-2.ensures.value in
    let as_long = slots_kept slots c.retime.new.slots c.args.slot (Some new) written in
    rw (
      with_items_is c.self.inside.slots c.retime.new.slots (omega (arith, as_long, c.self.inside.slots.ok)),
      with_items_is heap c.retime.new.heap (omega (arith, length_heap, heap.ok)),
    ) (
      sound_renewed slots c.retime.new.slots heap.items c.retime.new.heap c.args.slot next c.self.inside.vacant within c.self.invariant.0
          c.retime.ensures.heap old.0 new length_heap held written led refl refl,
      omega (arith, as_long, c.self.invariant.1),
    )
