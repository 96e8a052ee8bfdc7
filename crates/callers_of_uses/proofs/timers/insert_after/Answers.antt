use Rattle.std.proofs.Common.{arith}
use Rattle.std.specs.Ordering.{nat_cmp}
use Rattle.fc_timers.proofs.Laws.{gone_after_put}
use Rattle.callers_of_uses.proofs.timers.insert_after.Goals as goal

pub returns-in-Ok : goal.returns-in-Ok
returns-in-Ok c = (
  omega (arith, c.requires.0, c.in-Ok.ensures.turn),
  rw c.in-Ok.ensures.timers
      (gone_after_put nat_cmp c.args.queue.now.timers c.args.gone c.requires.1 _ c.in-Ok.timer c.args.value
      (omega (arith, c.requires.0, c.in-Ok.ensures.first))),
)
