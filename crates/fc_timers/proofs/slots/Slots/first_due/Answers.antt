use Rattle.std.proofs.Common.{◌≡◌, refl, sym, ap, ◌∙◌}
use Rattle.std.proofs.lemmas.Option.{same_Some}
use Rattle.std.specs.Ordering.{is_gt}
use Rattle.fc_timers.proofs.Standing.{not_due_after}
use Rattle.fc_timers.proofs.slots.Slots.first_due.Goals as goal

pub returns-then-is_gt-clause-none : goal.returns-then-is_gt-clause-none
returns-then-is_gt-clause-none g c =
    let first = c.in_ok-first.ensures.earliest in
    let late = ap (λ t. is_gt (g.T.Ord.cmp t c.args.now.now)) first.at ∙ ap is_gt (sym c.cmp.ensures) ∙ sym c.is_gt.ensures ∙ c.if-is_gt.true in
    λ timer a stands. not_due_after g.met.T.Ord.total first.armed a c.args.now.now (first.earliest.first timer a stands) late

pub returns-clause-first : goal.returns-clause-first
returns-clause-first g c =
    let first = c.in_ok-first.ensures.earliest in
    let same : c.in_ok-armed.armed.now ≡ first.armed = same_Some _ _ (c.in_ok-armed.ensures ∙ first.held) in
    rw same (first.armed, refl, refl, first.earliest)
