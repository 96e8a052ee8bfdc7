use Rattle.std.proofs.Common.{sym, ap, ◌∙◌}
use Rattle.std.specs.Ordering.{is_gt}
use Rattle.fc_timers.proofs.Standing.{not_due_after}
use Rattle.fc_timers.proofs.Kept.{popped}
use Rattle.fc_timers.proofs.slots.Slots.pop_due.Goals as goal

pub returns-then-is_gt-clause-none : goal.returns-then-is_gt-clause-none
returns-then-is_gt-clause-none g c =
    let first = c.in_ok-first.ensures.earliest in
    let late = ap (λ t. is_gt (g.T.Ord.cmp t c.args.now.now)) first.at ∙ ap is_gt (sym c.cmp.ensures) ∙ sym c.is_gt.ensures ∙ c.if-is_gt.true in
    λ timer a stands. not_due_after g.met.T.Ord.total first.armed a c.args.now.now (first.earliest.first timer a stands) late

pub returns-clause-popped : goal.returns-clause-popped
returns-clause-popped g c =
    let due = ap is_gt (sym c.cmp.ensures) ∙ sym c.is_gt.ensures ∙ c.if-is_gt.false in
    popped _ _ _ c.args.now.now c.in_ok-armed.armed c.in_ok-first.ensures.earliest due c.take.ensures.slots (sym c.in_ok-armed.was ∙ c.take.ensures.answer)
