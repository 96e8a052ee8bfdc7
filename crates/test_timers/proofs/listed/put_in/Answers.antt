use Rattle.std.proofs.Common.{◌∙◌}
use Rattle.std.proofs.lemmas.Cmp.{nat_cmp_total}
use Rattle.std.specs.Ordering.{nat_cmp}
use Rattle.fc_timers.proofs.Laws.{put_after_its_time}
use Rattle.test_timers.proofs.listed.put_in.Goals as goal

pub returns-in-Ok : goal.returns-in-Ok
returns-in-Ok c =
    c.in-Ok.ensures.timers
    ∙ put_after_its_time nat_cmp nat_cmp_total c.args.queue.now c.in-Ok.ensures.in_order c.args.at (c.in-Ok.timer, c.args.value)
