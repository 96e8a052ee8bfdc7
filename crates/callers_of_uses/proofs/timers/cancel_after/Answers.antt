use Rattle.std.proofs.Common.{arith}
use Rattle.std.specs.Ordering.{nat_cmp}
use Rattle.fc_timers.proofs.Laws.{gone_after_cancel}
use Rattle.callers_of_uses.proofs.timers.cancel_after.Goals as goal

pub returns : goal.returns
returns c = (
  omega (arith, c.requires.0, c.cancel.ensures.turn),
  rw c.cancel.ensures.timers
      (gone_after_cancel nat_cmp c.args.queue.now.timers c.args.gone c.requires.1 c.args.timer),
)
