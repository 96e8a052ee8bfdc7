use Rattle.std.proofs.Common.{◌≡◌, ◌+◌, ◌<◌, length, get_or, set, None, Some, refl, sym, ap, subst, ◌∙◌, arith}
use Rattle.std.proofs.lemmas.List.{get_or-map, length-map, with_items_is}
use Rattle.fc_timers.specs.declared.timer.Armed.{Armed}
use Rattle.fc_timers.specs.Heap.{AreVacantKept, IsHeap, IsSound, helds, links}
use Rattle.fc_timers.proofs.Kept.{asked_vacancy, slots_kept, sound_filled}
use Rattle.fc_timers.proofs.slots.Slots.fill.Goals as goal

pub index-requires : goal.index-requires
index-requires g c =
    let slots = c.self.inside.slots.items in
    let asked = rw (← c.self.view_is) at c.requires.vacancy in
    let free = asked_vacancy _ _ _ _ c.self.invariant.0 asked in
    omega (arith, length-map slots (λ s. s.held), free.2.0, c.self.inside.slots.ok)

pub push_reserved-requires : goal.push_reserved-requires
push_reserved-requires g c =
    let asked = rw (← c.self.view_is) at c.requires.vacancy in
    omega (arith, asked, c.self.invariant.0.counted, c.self.invariant.1, length-map c.self.inside.slots.items (λ s. s.held), c.self.inside.heap.ok)

pub put-requires-clause-within : goal.put-requires-clause-within
put-requires-clause-within g c =
    let slots = c.self.inside.slots.items in
    let asked = rw (← c.self.view_is) at c.requires.vacancy in
    let free = asked_vacancy _ _ _ _ c.self.invariant.0 asked in
    omega (arith, length-map slots (λ s. s.held), free.2.0, ap length c.as_mut_slice.ensures.value)

pub put-requires-clause-vacant : goal.put-requires-clause-vacant
put-requires-clause-vacant g c =
    let asked = rw (← c.self.view_is) at c.requires.vacancy in
    let free = asked_vacancy _ _ _ _ c.self.invariant.0 asked in
    ap (λ l. get_or (helds l) c.self.inside.vacant None) c.as_mut_slice.ensures.value ∙ free.2.1

pub put-requires-clause-heap : goal.put-requires-clause-heap
put-requires-clause-heap g c = (
  c.self.inside.heap.items,
  _,
  c.as_mut_slice-2.ensures.value ∙ c.push_reserved.ensures.items,
  subst (λ l. IsHeap g.T.Ord.cmp l c.self.inside.heap.items) (sym c.as_mut_slice.ensures.value) c.self.invariant.0.heaped,
)

pub invariant_of-self : goal.invariant_of-self
invariant_of-self g c =
    let slots = c.self.inside.slots.items in
    let asked = rw (← c.self.view_is) at c.requires.vacancy in
    let free = asked_vacancy _ _ _ _ c.self.invariant.0 asked in
    let now = c.put.new.slots in
    let next = c.self.inside.next_number in
    let slot = c.self.inside.vacant in
    let armed : Armed g.row.T.Denot g.row.V.Denot = record { at = c.args.at; turn = next; number = next; value = c.args.value } in
    let within : slot < length slots = omega (arith, length-map slots (λ s. s.held), free.2.0) in
    let written : helds now ≡ set (helds slots) slot (Some armed) = c.put.ensures.held ∙ ap
    (λ l. set (helds l) slot (Some armed)) c.as_mut_slice.ensures.value in
    let led : AreVacantKept now (links slots) = λ k none. c.put.ensures.vacant k none ∙ ap (λ l. get_or (links l) k 0) c.as_mut_slice.ensures.value in
    let leads : get_or (links slots) slot 0 ≡ c.index.result.now.link =
    get_or-map (λ s. s.link) slots slot c.index.result.now 0 within ∙ ap (λ s. s.link) (sym c.index.ensures) in
    let heap = c.push_reserved.new.self in
    let length_heap = c.put.ensures.len ∙ ap length c.as_mut_slice-2.ensures.value in
    let longer : length c.put.new.heap ≡ length c.self.inside.heap.items + 1 =
    omega (arith, length_heap, c.push_reserved.ensures.len, heap.ok, c.self.inside.heap.ok) in
    let filled = sound_filled slots now c.self.inside.heap.items c.put.new.heap slot next slot within c.self.invariant.0 c.put.ensures.heap armed free.0
    (omega (arith, c.self.inside.slots.ok)) longer free.1 free.2 written led refl refl in
    let as_long = slots_kept slots now slot (Some armed) written in
    rw (
      with_items_is c.self.inside.slots now (omega (arith, as_long, c.self.inside.slots.ok)),
      with_items_is heap c.put.new.heap (omega (arith, length_heap, heap.ok)),
    ) (
      subst (λ k. IsSound g.T.Ord.cmp now c.put.new.heap (next + 1) k) leads filled,
      omega (arith, as_long, c.self.invariant.1, c.push_reserved.ensures.capacity),
    )

pub returns-clause-within : goal.returns-clause-within
returns-clause-within g c =
    let asked = rw (← c.self.view_is) at c.requires.vacancy in
    let free = asked_vacancy _ _ _ _ c.self.invariant.0 asked in
    rw (← c.self.view_is) free.2.0

pub returns-clause-vacant : goal.returns-clause-vacant
returns-clause-vacant g c =
    let asked = rw (← c.self.view_is) at c.requires.vacancy in
    let free = asked_vacancy _ _ _ _ c.self.invariant.0 asked in
    rw (← c.self.view_is) free.2.1
