use Rattle.std.proofs.Common.{◌≡◌, ◌<◌, length, get_or, subst, sym, ap, ◌∙◌, arith}
use Rattle.std.specs.List.{slice_get}
use Rattle.fc_timers.specs.Heap.{IsOpen, link_at, links}
use Rattle.fc_timers.proofs.Changes.{place_within, take_gap, take_heap}
use Rattle.fc_timers.proofs.Heaps.{none_over}
use Rattle.fc_timers.proofs.Kept.{there}
use Rattle.fc_timers.proofs.Moves.{vacant_chained}
use Rattle.fc_timers.proofs.heap.take.Goals as goal

pub lift-end-requires : goal.lift-end-requires
lift-end-requires g c =
    let was = there _ c.requires.held in
    let said = c.vacate-armed.ensures in
    let place = c.link_at-place.ensures in
    let before : link_at c.args.slots.now c.args.slot < length c.args.heap.now = omega (arith, place, c.if-place-heap.true) in (
      c.args.last,
      subst (λ p. IsOpen g.T.Ord.cmp c.vacate-armed.new.slots c.args.heap.now p c.args.last) (sym place)
          (take_gap g.met.T.Ord.total c.args.slots.now c.vacate-armed.new.slots c.args.slot c.args.heap.now c.args.last c.requires.heap was.0 was.1
          c.args.next_vacant said.held said.link before),
    )

pub settle_up-requires-clause-gap : goal.settle_up-requires-clause-gap
settle_up-requires-clause-gap g c =
    let was = there _ c.requires.held in
    let said = c.vacate-armed.ensures in
    let place = c.link_at-place.ensures in
    let before : link_at c.args.slots.now c.args.slot < length c.args.heap.now = omega (arith, place, c.if-place-heap.true) in
    c.lift-end.ensures.gap c.args.last (subst (λ p. IsOpen g.T.Ord.cmp c.vacate-armed.new.slots c.args.heap.now p c.args.last) (sym place)
    (take_gap g.met.T.Ord.total c.args.slots.now c.vacate-armed.new.slots c.args.slot c.args.heap.now c.args.last c.requires.heap was.0 was.1
    c.args.next_vacant said.held said.link before))

pub settle_up-requires-clause-over : goal.settle_up-requires-clause-over
settle_up-requires-clause-over g c =
    none_over g.met.T.Ord.total (slice_get c.lift-end.new.heap) c.lift-end.result c.args.last c.lift-end.ensures.last

pub returns-then-place-heap-clause-held : goal.returns-then-place-heap-clause-held
returns-then-place-heap-clause-held g c = c.settle_up.ensures.held ∙ c.lift-end.ensures.held ∙ c.vacate-armed.ensures.held

pub returns-then-place-heap-clause-vacant : goal.returns-then-place-heap-clause-vacant
returns-then-place-heap-clause-vacant g c = λ k none.
    vacant_chained c.lift-end.new.slots c.settle_up.new.slots (links c.vacate-armed.new.slots) c.settle_up.ensures.held c.settle_up.ensures.vacant
    c.lift-end.ensures.vacant k none
    ∙ ap (λ l. get_or l k 0) c.vacate-armed.ensures.link

pub returns-else-place-heap-clause-vacant : goal.returns-else-place-heap-clause-vacant
returns-else-place-heap-clause-vacant g c = λ k none. ap (λ l. get_or l k 0) c.vacate-armed.ensures.link

pub returns-else-place-heap-clause-heap : goal.returns-else-place-heap-clause-heap
returns-else-place-heap-clause-heap g c =
    let was = there _ c.requires.held in
    let said = c.vacate-armed.ensures in
    let total = g.met.T.Ord.total in
    let slots = c.args.slots.now in
    let new = c.vacate-armed.new.slots in
    let within = place_within total slots new c.args.slot c.args.heap.now c.args.last c.requires.heap was.0 was.1 c.args.next_vacant said.held said.link in
    let at_last : link_at slots c.args.slot ≡ length c.args.heap.now = omega (arith, within, c.link_at-place.ensures, c.if-place-heap.false) in
    take_heap total slots new c.args.slot c.args.heap.now c.args.last c.requires.heap was.0 was.1 c.args.next_vacant said.held said.link at_last
