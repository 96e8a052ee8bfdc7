use Rattle.std.proofs.Common.{◌≡◌, ◌+◌, ◌<◌, length, get_or, set, Some, None, IsSome, sym, subst, ap, ◌∙◌, arith}
use Rattle.std.proofs.lemmas.List.{length-map, length_push, with_items_is}
use Rattle.fc_timers.specs.Heap.{AreVacantKept, helds, links}
use Rattle.fc_timers.proofs.Kept.{slots_kept, some_counted, sound_emptied, within_slot}
use Rattle.fc_timers.proofs.slots.Slots.take.Goals as goal

pub take_last-last-requires : goal.take_last-last-requires
take_last-last-requires g c =
    omega (
      arith,
      c.self.inside.heap.ok,
      c.self.invariant.0.counted,
      some_counted (helds c.self.inside.slots.items) c.args.slot (rw (← c.self.view_is) at c.requires),
    )

pub take-requires-clause-held : goal.take-requires-clause-held
take-requires-clause-held g c =
    subst (λ l. IsSome (get_or (helds l) c.args.slot None)) (sym c.as_mut_slice.ensures.value) (rw (← c.self.view_is) at c.requires)

pub take-requires-clause-heap : goal.take-requires-clause-heap
take-requires-clause-heap g c =
    rw (c.as_mut_slice.ensures.value, c.as_mut_slice-2.ensures.value, ← c.take_last-last.ensures.items) c.self.invariant.0.heaped

pub invariant_of-self-2 : goal.invariant_of-self-2
invariant_of-self-2 g c =
    let slots = c.self.inside.slots.items in
    let slot = c.args.slot in
    let now = c.take.new.slots in
    let vacant = c.self.inside.vacant in
    let held : get_or (helds slots) slot None ≡ Some c.in_ok-armed.armed =
    sym (c.take.ensures.was ∙ ap (λ l. get_or (helds l) slot None) c.as_mut_slice.ensures.value) ∙ c.in_ok-armed.was in
    let within : slot < length slots = omega (arith, length-map slots (λ s. s.held), within_slot (helds slots) slot _ held) in
    let written : helds now ≡ set (helds slots) slot None = c.take.ensures.held ∙ ap (λ l. set (helds l) slot None) c.as_mut_slice.ensures.value in
    let led : AreVacantKept now (set (links slots) slot vacant) =
    λ k none. c.take.ensures.vacant k none ∙ ap (λ l. get_or (set (links l) slot vacant) k 0) c.as_mut_slice.ensures.value in
    let heap = c.take_last-last.new.self in
    let length_heap = c.take.ensures.len ∙ ap length c.as_mut_slice-2.ensures.value in
    let shorter : length c.take.new.heap + 1 ≡ length c.self.inside.heap.items =
    omega (arith, length_heap, ap length c.take_last-last.ensures.items, length_push heap.items c.take_last-last.result) in
    let emptied = sound_emptied slots now c.self.inside.heap.items c.take.new.heap slot c.self.inside.next_number vacant within c.self.invariant.0
    c.take.ensures.heap c.in_ok-armed.armed shorter held written led in
    let as_long = slots_kept slots now slot None written in
    rw (
      with_items_is c.self.inside.slots now (omega (arith, as_long, c.self.inside.slots.ok)),
      with_items_is heap c.take.new.heap (omega (arith, length_heap, heap.ok)),
    ) (emptied, omega (arith, as_long, c.self.invariant.1, c.take_last-last.ensures.capacity))
