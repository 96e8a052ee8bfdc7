use Rattle.std.proofs.Common.{◌≡◌, get_or, set, Some, sym, subst, ap, ◌∙◌}
use Rattle.fc_timers.specs.declared.timer.Armed.{Armed}
use Rattle.fc_timers.specs.declared.slot.Due.{Due}
use Rattle.fc_timers.specs.Slotted.{renewed}
use Rattle.fc_timers.specs.Heap.{IsOpen, helds}
use Rattle.fc_timers.proofs.Changes.{retime_gap}
use Rattle.fc_timers.proofs.Kept.{there}
use Rattle.fc_timers.proofs.heap.retime.Goals as goal

pub settle-requires : goal.settle-requires
settle-requires g c =
    let slots = c.args.slots.now in
    let was = there _ c.requires.held in
    let now : Armed g.row.T.Denot g.row.V.Denot = record { at = c.args.at; turn = c.args.turn; number = was.0.number; value = was.0.value } in
    let said = c.write_time.ensures in
    let due : Due g.row.T.Denot = record { at = c.args.at; turn = c.args.turn; slot = c.args.slot } in
    let written : helds c.write_time.new.slots ≡ set (helds slots) c.args.slot (Some now) =
    said.held ∙ ap (λ h. set (helds slots) c.args.slot (renewed c.args.at c.args.turn h)) was.1 in
    subst (λ p. IsOpen g.T.Ord.cmp c.write_time.new.slots c.args.heap.now p due) (sym c.link_at-place.ensures)
    (retime_gap g.met.T.Ord.total slots c.write_time.new.slots c.args.slot c.args.heap.now c.requires.heap now written said.link was.0 was.1)

pub returns-clause-vacant : goal.returns-clause-vacant
returns-clause-vacant g c = λ k none. c.settle.ensures.vacant k none ∙ ap (λ l. get_or l k 0) c.write_time.ensures.link
