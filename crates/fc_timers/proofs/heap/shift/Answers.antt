use Rattle.std.proofs.Common.{set, ap, ◌∙◌}
use Rattle.std.proofs.lemmas.Option.{get_or_from_slice_get, slice_get-get_or}
use Rattle.fc_timers.specs.Heap.{links}
use Rattle.fc_timers.proofs.heap.shift.Goals as goal

pub lead-requires : goal.lead-requires
lead-requires g c = c.requires.slot _ (slice_get-get_or c.args.heap.now c.args.from c.index-heap-from.result c.requires.from)

pub returns-clause-held : goal.returns-clause-held
returns-clause-held g c = c.lead.ensures.held

pub returns-clause-due : goal.returns-clause-due
returns-clause-due g c = λ d is.
    ap (set c.args.heap.now c.args.to) (c.index-heap-from-2.is ∙ get_or_from_slice_get c.args.heap.now c.args.from d c.index-heap-from-2.result is)

pub returns-clause-link : goal.returns-clause-link
returns-clause-link g c = λ d is.
    c.lead.ensures.link
    ∙ ap (λ x. set (links c.args.slots.now) x.slot c.args.to) (get_or_from_slice_get c.args.heap.now c.args.from d c.index-heap-from.result is)
