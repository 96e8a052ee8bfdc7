use Rattle.std.proofs.Common.{sym, subst, ◌∙◌}
use Rattle.std.specs.Slice.{IsItemAt}
use Rattle.fc_timers.proofs.Standing.{read_at, unread_at}
use Rattle.fc_timers.proofs.slots.Slots.standing.Goals as goal

pub returns-in-Some : goal.returns-in-Some
returns-in-Some g c =
    let slots = c.self.inside.slots.items in
    let lent = subst (λ l. IsItemAt l c.args.slot c.get.result) c.deref.ensures.value c.get.ensures.lookup in
    rw (← c.self.view_is) (c.as_ref.ensures.value ∙ sym (read_at (λ s. s.held) slots c.args.slot _ _ lent c.in-Some.is).1)

pub returns-in-None : goal.returns-in-None
returns-in-None g c =
    let slots = c.self.inside.slots.items in
    let lent = subst (λ l. IsItemAt l c.args.slot c.get.result) c.deref.ensures.value c.get.ensures.lookup in
    rw (← c.self.view_is) (sym (unread_at (λ s. s.held) slots c.args.slot _ lent c.in-None.is))
