use Rattle.std.proofs.Common.{◌≡◌, true, sym, subst, ◌∙◌}
use Rattle.std.proofs.lemmas.Option.{get_or_from_slice_get}
use Rattle.std.specs.List.{slice_get}
use Rattle.fc_timers.specs.Slotted.{due_first}
use Rattle.fc_timers.proofs.Heaps.{over_chained}
use Rattle.fc_timers.proofs.Turns.{due_first_turned}
use Rattle.fc_timers.proofs.heap.earlier_below.Goals as goal

pub returns-then-precedes-clause-none : goal.returns-then-precedes-clause-none
returns-then-precedes-clause-none g c =
    let due = c.args.due.now in
    let first = c.in_ok-below.ensures.first in
    let same = c.index-heap-below.is ∙ get_or_from_slice_get c.args.heap.now c.in_ok-below.below first.0 c.index-heap-below.result first.1.stands in
    over_chained g.met.T.Ord.total (slice_get c.args.heap.now) c.args.place due first.0
    (subst (λ x. due_first g.T.Ord.cmp due.at due.turn x.at x.turn ≡ true) same (sym c.precedes.ensures ∙ c.if-precedes.true)) first.1.first

pub returns-else-precedes-clause-first : goal.returns-else-precedes-clause-first
returns-else-precedes-clause-first g c =
    let due = c.args.due.now in
    let first = c.in_ok-below.ensures.first in
    let same = c.index-heap-below.is ∙ get_or_from_slice_get c.args.heap.now c.in_ok-below.below first.0 c.index-heap-below.result first.1.stands in (
      first.0,
      first.1,
      subst (λ x. due_first g.T.Ord.cmp x.at x.turn due.at due.turn ≡ true) same
          (due_first_turned g.met.T.Ord.total due.at due.turn _ _ (sym c.precedes.ensures ∙ c.if-precedes.false)),
    )
