use Rattle.std.proofs.Common.{ap, ◌∙◌}
use Rattle.std.proofs.lemmas.Cmp.{nat_cmp_total}
use Rattle.std.specs.Ordering.{nat_cmp}
use Rattle.fc_timers.specs.Timers.{without}
use Rattle.fc_timers.proofs.Laws.{without_inserted}
use Rattle.callers_of_uses.proofs.timers.insert_then_cancel.Goals as goal

pub returns-in-Ok-clause-timers : goal.returns-in-Ok-clause-timers
returns-in-Ok-clause-timers c =
    c.cancel.ensures.timers ∙ ap (λ s. without s c.in-Ok.timer) c.in-Ok.ensures.timers
    ∙ without_inserted nat_cmp nat_cmp_total c.args.queue.now c.in-Ok.ensures.in_order c.args.at c.in-Ok.timer c.args.value c.in-Ok.ensures.fresh
