use Rattle.std.proofs.lemmas.Cmp.{nat_cmp_total}
use Rattle.std.specs.Ordering.{nat_cmp}
use Rattle.fc_timers.proofs.Laws.{due_comes_out, due_is_gone}
use Rattle.callers_of_uses.proofs.timers.expire.Goals as goal

pub returns-clause-out : goal.returns-clause-out
returns-clause-out c = λ e there due. due_comes_out nat_cmp c.args.queue.now.timers c.args.timer e c.args.now there due

pub returns-clause-gone : goal.returns-clause-gone
returns-clause-gone c = λ e there due. rw c.drain_due.ensures.timers
    (due_is_gone nat_cmp nat_cmp_total c.args.queue.now c.drain_due.ensures.in_order c.args.timer e c.args.now there due)
