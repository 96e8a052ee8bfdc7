use Rattle.fc_set.proofs.OrderFacts.{less_if, greater_if, equal_else}
use Rattle.fc_set.proofs.StepFacts.{firsts_less, firsts_greater, firsts_tied}
use Rattle.fc_set.proofs.set.merge.Merge.next.Goals as goal

pub returns-then-is_gt-clause-firsts : goal.returns-then-is_gt-clause-firsts
returns-then-is_gt-clause-firsts g c =
    firsts_greater g.T.Ord.cmp g.met.T.Ord.total _ _ _ _ _ c.in-Some.ensures c.in-Some-first.ensures c.step-then-is_gt.ensures c.self.invariant.0
    c.self.invariant.1
    (greater_if (g.T.Ord.cmp c.in-Some.ours.now c.in-Some-first.theirs.now) c.order_of-order.result c.is_gt.result c.order_of-order.ensures c.is_gt.ensures
    c.if-is_gt.true)

pub returns-then-is_lt-clause-firsts : goal.returns-then-is_lt-clause-firsts
returns-then-is_lt-clause-firsts g c =
    firsts_less g.T.Ord.cmp g.met.T.Ord.total _ _ _ _ _ c.in-Some.ensures c.in-Some-first.ensures c.step-2.ensures c.self.invariant.0 c.self.invariant.1
    (less_if (g.T.Ord.cmp c.in-Some.ours.now c.in-Some-first.theirs.now) c.order_of-order.result c.is_lt.result c.order_of-order.ensures c.is_lt.ensures
    c.if-is_lt.true)

pub returns-clause-firsts : goal.returns-clause-firsts
returns-clause-firsts g c =
    firsts_tied g.T.Ord.cmp g.met.T.Ord.total _ _ _ _ _ _ c.in-Some.ensures c.in-Some-first.ensures c.step-2.ensures c.step-3.ensures c.self.invariant.0
    c.self.invariant.1
    (equal_else (g.T.Ord.cmp c.in-Some.ours.now c.in-Some-first.theirs.now) c.order_of-order.result c.is_gt.result c.is_lt.result c.order_of-order.ensures
    c.is_gt.ensures c.if-is_gt.false c.is_lt.ensures c.if-is_lt.false)
