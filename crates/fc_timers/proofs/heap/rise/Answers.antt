use Rattle.std.proofs.Common.{◌≢◌, Some, refl, subst, ◌∙◌, inl, inr, arith}
use Rattle.std.specs.List.{slice_get}
use Rattle.fc_timers.specs.Heap.{IsAtMost, links}
use Rattle.fc_timers.proofs.Heaps.{get_within, order_risen}
use Rattle.fc_timers.proofs.Moves.{moved_gap, moved_len, moved_over, moved_slot, moved_vacant}
use Rattle.fc_timers.proofs.heap.rise.Goals as goal

pub up-init : goal.up-init
up-init g c = record {
  held = refl;
  vacant = λ k none. refl;
  len = refl;
  gap = c.requires;
  over = λ either. elim either [ inl below ↦ absurd (omega (arith, below)) | inr over ↦ over ];
}

pub later_above-requires : goal.later_above-requires
later_above-requires g c = c.up.invariant.gap.place

pub shift-requires-clause-from : goal.shift-requires-clause-from
shift-requires-clause-from g c = omega (arith, c.in-Some.ensures.above, c.up.invariant.gap.place)

pub shift-requires-clause-slot : goal.shift-requires-clause-slot
shift-requires-clause-slot g c = λ d stands.
    let above = c.in-Some.ensures.above in
    moved_slot c.up.slots c.up.heap c.up.place c.args.due.now c.up.invariant.gap c.in-Some.above d (omega (arith, above)) stands

pub shift-requires-clause-to : goal.shift-requires-clause-to
shift-requires-clause-to g c = c.up.invariant.gap.place

pub up-preserved : goal.up-preserved
up-preserved g c =
    let total = g.met.T.Ord.total in
    let is_above = c.in-Some.ensures.above in
    let above = c.in-Some.above in
    let slots = c.up.slots in
    let heap = c.up.heap in
    let place = c.up.place in
    let due = c.args.due.now in
    let gap = c.up.invariant.gap in
    let apart : above ≢ place = omega (arith, is_above) in
    let there = get_within heap above (omega (arith, is_above, gap.place)) in
    let said = c.shift.ensures in
    let moved = said.due there.0 there.1 in
    let led = said.link there.0 there.1 in
    let later = subst (IsAtMost g.T.Ord.cmp (Some due)) there.1 c.in-Some.ensures.later in
    let order = order_risen total (slice_get heap) place above there.0 is_above there.1 gap.ordered in
    record {
      held = said.held ∙ c.up.invariant.held;
      vacant = moved_vacant slots heap place due gap above there.0 apart there.1 c.shift.new.slots c.shift.new.heap said.held moved led
          (links c.args.slots.now) c.up.invariant.vacant;
      len = moved_len slots heap place due gap above there.0 apart there.1 c.shift.new.slots c.shift.new.heap said.held moved led ∙ c.up.invariant.len;
      gap = moved_gap slots heap place due gap above there.0 apart there.1 c.shift.new.slots c.shift.new.heap said.held moved led order;
      over = λ either. moved_over slots heap place due gap above there.0 apart there.1 c.shift.new.slots c.shift.new.heap said.held moved led total is_above
          later;
    }

pub returns-clause-under : goal.returns-clause-under
returns-clause-under g c = c.in_default.ensures.none

pub returns-clause-over : goal.returns-clause-over
returns-clause-over g c = c.up.invariant.over
