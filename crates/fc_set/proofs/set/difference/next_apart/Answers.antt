use Rattle.std.proofs.Common.{◌∷◌, drop, sym, subst}
use Rattle.fc_set.proofs.OrderFacts.{less_if, equal_if, greater_else}
use Rattle.fc_set.proofs.StepFacts.{IsApart, apart_alone, apart_less, apart_tied, apart_after}
use Rattle.fc_set.proofs.set.difference.next_apart.Goals as goal

pub returns-in_default-clause-gives : goal.returns-in_default-clause-gives
returns-in_default-clause-gives g c = apart_alone g.T.Ord.cmp g.met.T.Ord.total c.theirs.ours c.theirs.theirs c.args.ours.now c.args.theirs.now
    c.theirs.item.now c.in_default.ensures c.theirs.invariant

pub returns-then-is_lt-clause-gives : goal.returns-then-is_lt-clause-gives
returns-then-is_lt-clause-gives g c = apart_less g.T.Ord.cmp g.met.T.Ord.total c.theirs.ours c.theirs.theirs c.args.ours.now c.args.theirs.now
    c.theirs.item.now c.in-Some.other.now c.in-Some.ensures (less_if (g.T.Ord.cmp c.theirs.item.now c.in-Some.other.now) c.order_of-order.result c.is_lt.result
    c.order_of-order.ensures c.is_lt.ensures c.if-is_lt.true) c.theirs.invariant

pub theirs-preserved-then-is_eq : goal.theirs-preserved-then-is_eq
theirs-preserved-then-is_eq g c =
    let opened = subst (λ l. IsApart g.T.Ord.cmp (c.theirs.item.now ∷ c.theirs.ours) l c.args.ours.now c.args.theirs.now) c.in-Some.ensures
    c.theirs.invariant in
    let after = apart_tied g.T.Ord.cmp g.met.T.Ord.total c.theirs.ours (drop 1 c.theirs.theirs) c.args.ours.now c.args.theirs.now c.theirs.item.now
    c.in-Some.other.now (equal_if (g.T.Ord.cmp c.theirs.item.now c.in-Some.other.now) c.order_of-order.result c.is_eq.result c.order_of-order.ensures
    c.is_eq.ensures c.if-is_eq.true) opened in
    subst (λ l. IsApart g.T.Ord.cmp l c.step.new.self c.args.ours.now c.args.theirs.now) c.in_ok-item-2.ensures.steps
    (subst (λ l. IsApart g.T.Ord.cmp c.theirs.ours l c.args.ours.now c.args.theirs.now) (sym c.step.ensures) after)

pub theirs-preserved : goal.theirs-preserved
theirs-preserved g c =
    let opened = subst (λ l. IsApart g.T.Ord.cmp (c.theirs.item.now ∷ c.theirs.ours) l c.args.ours.now c.args.theirs.now) c.in-Some.ensures
    c.theirs.invariant in
    subst (λ l. IsApart g.T.Ord.cmp (c.theirs.item.now ∷ c.theirs.ours) l c.args.ours.now c.args.theirs.now) (sym c.step.ensures)
    (apart_after g.T.Ord.cmp g.met.T.Ord.total c.theirs.ours (drop 1 c.theirs.theirs) c.args.ours.now c.args.theirs.now c.theirs.item.now c.in-Some.other.now
    (greater_else (g.T.Ord.cmp c.theirs.item.now c.in-Some.other.now) c.order_of-order.result c.is_lt.result c.is_eq.result c.order_of-order.ensures
    c.is_lt.ensures c.if-is_lt.false c.is_eq.ensures c.if-is_eq.false) opened)
