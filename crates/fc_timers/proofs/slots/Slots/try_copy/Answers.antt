use Rattle.std.proofs.Common.{◌≤◌, length, min, inl, refl, sym, subst, arith}
use Rattle.std.proofs.lemmas.Result.{err_from_is_err_and}
use Rattle.fc_timers.specs.Heap.{IsSound}
use Rattle.fc_timers.proofs.SoundCopies.{helds_copied, refused_of_slots, slots_copied, sound_copied}
use Rattle.fc_timers.proofs.Standing.{are_given_out}
use Rattle.fc_timers.proofs.slots.Slots.try_copy.Goals as goal

pub copy_with_room-requires : goal.copy_with_room-requires
copy_with_room-requires g c =
    let same = slots_copied g.V.TryClone.same c.self.inside.slots.items c.in_ok-slots.slots.items c.in_ok-slots.ensures in
    omega (arith, c.len.ensures, same, c.self.invariant.0.total)

pub returns-in_err-slots-clause-error : goal.returns-in_err-slots-clause-error
returns-in_err-slots-clause-error g c =
    let p = err_from_is_err_and c.from_residual.result c.from_residual.ensures.1 in
    let slots = c.self.inside.slots in
    let heap = c.self.inside.heap in
    let within : length slots.items ≤ min slots.cap heap.cap = omega (arith, slots.ok, c.self.invariant.1) in
    rw (p.1, p.2, ← c.self.view_is)
    (refused_of_slots g.V.TryClone.may_refuse slots.items c.self.inside.next_number (min slots.cap heap.cap) _ within c.in_err-slots.ensures)

pub returns-in_err-heap-clause-error : goal.returns-in_err-heap-clause-error
returns-in_err-heap-clause-error g c =
    let p = err_from_is_err_and c.from_residual-in_err-heap.result c.from_residual-in_err-heap.ensures.1 in
    let slots = c.self.inside.slots in
    let same = slots_copied g.V.TryClone.same slots.items c.in_ok-slots.slots.items c.in_ok-slots.ensures in
    rw (p.1, p.2, ← c.self.view_is)
    (omega (arith, c.in_err-heap.ensures.some refl, c.len.ensures, same, slots.ok, c.self.invariant.1), inl c.in_err-heap.ensures.error)

pub invariant_of-result : goal.invariant_of-result
invariant_of-result g c =
    let slots = c.self.inside.slots.items in
    let copies = c.in_ok-slots.slots.items in
    let sound = sound_copied g.V.TryClone.same slots copies c.in_ok-slots.ensures c.self.inside.heap.items _ _ c.self.invariant.0 in (
      subst (λ l. IsSound g.T.Ord.cmp copies l c.self.inside.next_number c.self.inside.vacant) (sym c.in_ok-heap.ensures.items) sound,
      omega (arith, c.in_ok-heap.ensures.room, c.len.ensures),
    )

pub returns-clause-copied : goal.returns-clause-copied
returns-clause-copied g c = rw (← c.self.view_is) (record { slots = helds_copied g.V.TryClone.same _ _ c.in_ok-slots.ensures; number = refl })

pub returns-clause-given_out : goal.returns-clause-given_out
returns-clause-given_out g c = are_given_out _ (invariant_of-result g c).0.given_out
