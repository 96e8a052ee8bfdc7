use Rattle.std.proofs.Common.{◌≢◌, ◌∙◌, refl, arith}
use Rattle.std.proofs.lemmas.Option.{slice_get_within}
use Rattle.std.specs.List.{slice_get}
use Rattle.fc_timers.specs.Heap.{links}
use Rattle.fc_timers.proofs.Heaps.{order_sunk}
use Rattle.fc_timers.proofs.Moves.{moved_gap, moved_len, moved_slot, moved_vacant}
use Rattle.fc_timers.proofs.heap.lift.Goals as goal

pub down-init : goal.down-init
down-init g c = record { held = refl; vacant = λ k none. refl; len = refl; gap = λ d was. was }

pub first_below-requires : goal.first_below-requires
first_below-requires g c = (c.down.invariant.gap c.requires.0 c.requires.1).place

pub shift-requires-clause-from : goal.shift-requires-clause-from
shift-requires-clause-from g c =
    let first = c.in-Some.ensures.first in
    slice_get_within c.down.heap c.in-Some.below first.0 first.1.stands

pub shift-requires-clause-slot : goal.shift-requires-clause-slot
shift-requires-clause-slot g c = λ d stands.
    let first = c.in-Some.ensures.first in
    let gap = c.down.invariant.gap c.requires.0 c.requires.1 in
    moved_slot c.down.slots c.down.heap c.down.place c.requires.0 gap c.in-Some.below d (omega (arith, first.1.below)) stands

pub shift-requires-clause-to : goal.shift-requires-clause-to
shift-requires-clause-to g c = (c.down.invariant.gap c.requires.0 c.requires.1).place

pub down-preserved : goal.down-preserved
down-preserved g c =
    let first = c.in-Some.ensures.first in
    let below = c.in-Some.below in
    let slots = c.down.slots in
    let heap = c.down.heap in
    let place = c.down.place in
    let gap = c.down.invariant.gap c.requires.0 c.requires.1 in
    let stands = first.1.stands in
    let apart : below ≢ place = omega (arith, first.1.below) in
    let said = c.shift.ensures in
    let moved = said.due first.0 stands in
    let led = said.link first.0 stands in
    let order = order_sunk g.T.Ord.cmp (slice_get heap) place below first.0 first.1.below stands first.1.first gap.ordered in
    record {
      held = said.held ∙ c.down.invariant.held;
      vacant = moved_vacant slots heap place c.requires.0 gap below first.0 apart stands c.shift.new.slots c.shift.new.heap said.held moved led
          (links c.args.slots.now) c.down.invariant.vacant;
      len = moved_len slots heap place c.requires.0 gap below first.0 apart stands c.shift.new.slots c.shift.new.heap said.held moved led
          ∙ c.down.invariant.len;
      gap = λ d was. moved_gap slots heap place d (c.down.invariant.gap d was) below first.0 apart stands c.shift.new.slots c.shift.new.heap said.held moved
          led order;
    }

pub returns-clause-gap : goal.returns-clause-gap
returns-clause-gap g c = c.down.invariant.gap

pub returns-clause-last : goal.returns-clause-last
returns-clause-last g c = c.in_default.ensures.none
