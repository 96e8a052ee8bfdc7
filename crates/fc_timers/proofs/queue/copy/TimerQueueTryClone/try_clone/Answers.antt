use Rattle.std.proofs.lemmas.Result.{err_from_is_err_and}
use Rattle.fc_timers.proofs.ListCopies.{listed_copied, refused_of_queue}
use Rattle.fc_timers.proofs.queue.copy.TimerQueueTryClone.try_clone.Goals as goal

pub returns-in_err-slots : goal.returns-in_err-slots
returns-in_err-slots g c =
    let p = err_from_is_err_and c.from_residual.result c.from_residual.ensures.1 in
    rw (p.1, p.2, ← c.self.view_is)
    (refused_of_queue g.T.Ord.cmp g.met.T.Ord.total c.self.inside.slots c.self.invariant g.V.TryClone.may_refuse _ c.in_err-slots.ensures.error)

pub invariant_of-result : goal.invariant_of-result
invariant_of-result g c = c.in_ok-slots.ensures.given_out

pub returns : goal.returns
returns g c =
    rw (← c.self.view_is)
    (listed_copied g.V.TryClone.same g.T.Ord.cmp _ _ c.in_ok-slots.ensures.copied.slots, c.in_ok-slots.ensures.copied.number)
