use Rattle.fc_intervals.proofs.Laws.{numbers_free, numbers_outside}
use Rattle.callers_of_uses.proofs.intervals.book.Goals as goal

pub returns-clause-free : goal.returns-clause-free
returns-clause-free c = λ _. numbers_free c.args.from c.args.to c.args.nights.now c.overlaps.result c.overlaps.ensures c.if-overlaps.false

pub returns-clause-others : goal.returns-clause-others
returns-clause-others c = numbers_outside _ (λ x y e. e) _ _ _ _ _ c.in_ok-try_put.ensures.written
