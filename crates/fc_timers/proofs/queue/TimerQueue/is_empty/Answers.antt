use Rattle.std.proofs.Common.{length, sym, ap, ◌∙◌}
use Rattle.fc_timers.proofs.Calls.{length_in_order}
use Rattle.fc_timers.proofs.Thin.{no_timers}
use Rattle.fc_timers.proofs.queue.TimerQueue.is_empty.Goals as goal

pub returns : goal.returns
returns g c =
    let total = g.met.T.Ord.total in
    rw (← c.self.view_is) (
      λ empty. no_timers g.T.Ord.cmp total c.self.inside.slots c.self.invariant (c.is_empty.ensures.0 empty),
      λ none. c.is_empty.ensures.1 (sym (length_in_order g.T.Ord.cmp total c.self.inside.slots c.self.invariant) ∙ ap length none),
    )
