use Rattle.std.proofs.Common.{get_or, length, ap, ◌∙◌, arith}
use Rattle.std.proofs.lemmas.List.{length_push}
use Rattle.std.proofs.lemmas.Option.{slice_get_past}
use Rattle.std.specs.List.{slice_get}
use Rattle.fc_timers.specs.declared.slot.Due.{Due}
use Rattle.fc_timers.proofs.Changes.{put_gap}
use Rattle.fc_timers.proofs.Heaps.{none_over}
use Rattle.fc_timers.proofs.heap.put.Goals as goal

pub overflow_sub-last : goal.overflow_sub-last
overflow_sub-last g c =
    let made = c.requires.heap in
    omega (arith, ap length made.2, length_push made.0 made.1)

pub settle_up-requires-clause-gap : goal.settle_up-requires-clause-gap
settle_up-requires-clause-gap g c =
    let said = c.hold.ensures in
    let made = c.requires.heap in
    put_gap g.met.T.Ord.total c.args.slots.now c.hold.new.slots c.args.slot made.0 made.3 c.args.armed said.held said.link c.requires.within c.requires.vacant
    made.1 c.args.heap.now made.2 _ (omega (arith, ap length made.2, length_push made.0 made.1))

pub settle_up-requires-clause-over : goal.settle_up-requires-clause-over
settle_up-requires-clause-over g c =
    let due : Due g.row.T.Denot = record { at = c.args.armed.at; turn = c.args.armed.turn; slot = c.args.slot } in
    none_over g.met.T.Ord.total (slice_get c.args.heap.now) _ due (λ k above. slice_get_past c.args.heap.now k (omega (arith, above)))

pub returns-clause-held : goal.returns-clause-held
returns-clause-held g c = c.settle_up.ensures.held ∙ c.hold.ensures.held

pub returns-clause-vacant : goal.returns-clause-vacant
returns-clause-vacant g c = λ k none. c.settle_up.ensures.vacant k none ∙ ap (λ l. get_or l k 0) c.hold.ensures.link
