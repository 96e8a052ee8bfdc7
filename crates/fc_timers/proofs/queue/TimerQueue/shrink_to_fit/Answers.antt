use Rattle.std.proofs.Common.{◌≡◌, length, true, false, sym, ap, ◌∙◌}
use Rattle.fc_timers.specs.InOrder.{in_order, listed}
use Rattle.fc_timers.proofs.Calls.{length_in_order}
use Rattle.fc_timers.proofs.Thin.{no_timers}
use Rattle.fc_timers.proofs.queue.TimerQueue.shrink_to_fit.Goals as goal

pub returns-then-is_empty-clause-timers : goal.returns-then-is_empty-clause-timers
returns-then-is_empty-clause-timers g c =
    let none = no_timers g.T.Ord.cmp g.met.T.Ord.total c.self.inside.slots c.self.invariant (c.is_empty.ensures.0 c.if-is_empty.true) in
    let now : in_order g.T.Ord.cmp c.shrink_to_fit.new.self ≡ in_order g.T.Ord.cmp c.self.inside.slots =
    ap (in_order g.T.Ord.cmp) c.shrink_to_fit.ensures.slots ∙ ap (listed g.T.Ord.cmp 0) c.clear.ensures.slots ∙ sym none in
    let turn : c.shrink_to_fit.new.self.next_number ≡ c.self.inside.slots.next_number =
    ap (λ q. q.next_number) c.shrink_to_fit.ensures.slots ∙ c.clear.ensures.number in
    rw (← c.self.view_is) (λ i. record { timers = now i; next_turn = turn i; room = c.shrink_to_fit.new.self.room })

pub returns-else-is_empty-clause-frees : goal.returns-else-is_empty-clause-frees
returns-else-is_empty-clause-frees g c = λ none.
    let is = c.is_empty.ensures.1 (sym (length_in_order g.T.Ord.cmp g.met.T.Ord.total c.self.inside.slots c.self.invariant)
    ∙ ap length (ap (λ q. q.timers) c.self.view_is ∙ none)) in
    let no : true ≡ false = sym is ∙ c.if-is_empty.false in
    absurd cc
