use Rattle.std.proofs.Common.{◌≡◌, ◌+◌, true, arith}
use Rattle.std.specs.Prelude.{nat_le}
use Rattle.std.proofs.lemmas.Result.{err_from_is_err_and}
use Rattle.fc_timers.proofs.queue.TimerQueue.try_with_capacity.Goals as goal

pub returns-in_err-try_reserve-clause-error : goal.returns-in_err-try_reserve-clause-error
returns-in_err-try_reserve-clause-error g c =
    let p = err_from_is_err_and c.from_residual.result c.from_residual.ensures.1 in
    let fits : nat_le (0 + c.args.capacity) 18446744073709551615 ≡ true = grind (arith, c.ranges.capacity.fits) in
    let refused = rw fits at (rw c.new-queue.ensures.timers at c.in_err-try_reserve.ensures.error) in
    rw (p.1, p.2) refused
