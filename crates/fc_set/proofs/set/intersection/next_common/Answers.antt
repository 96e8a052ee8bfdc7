use Rattle.std.proofs.Common.{◌∷◌, inl, inr, sym, ap, subst, ◌∙◌}
use Rattle.fc_set.specs.Operations.{common}
use Rattle.fc_set.proofs.OrderFacts.{less_if, equal_if, greater_else}
use Rattle.fc_set.proofs.SideFacts.{common_of_none}
use Rattle.fc_set.proofs.StepFacts.{IsCommon, common_init, common_alone, common_less, common_greater, common_equal, common_ours_end, common_theirs_end}
use Rattle.fc_set.proofs.set.intersection.next_common.Goals as goal

pub returns-in_err-other-clause-gives : goal.returns-in_err-other-clause-gives
returns-in_err-other-clause-gives g c =
    let ended = c.in_err-other.ensures.steps in
    let e = common_alone g.T.Ord.cmp g.met.T.Ord.total c.args.ours.now c.next.new.self c.args.theirs.now c.in_ok-first.first.now c.in_ok-first.ensures.steps
    ended.0 in
    rw c.from_residual-in_err-other.ensures (
      e.0,
      ap (common g.T.Ord.cmp c.next.new.self) ended.1
          ∙ common_of_none g.T.Ord.cmp c.next.new.self,
      sym e.1,
      inr ended.1,
    )

pub pairs-init : goal.pairs-init
pairs-init g c = common_init g.T.Ord.cmp g.met.T.Ord.total _ _ _ _ _ _ c.in_ok-first.ensures.steps c.in_ok-other.ensures.steps c.requires.ascending.0
    c.requires.ascending.1

pub returns-in_err-first-2-clause-gives : goal.returns-in_err-first-2-clause-gives
returns-in_err-first-2-clause-gives g c =
    let ended = c.in_err-first-2.ensures.steps in
    let a = common_less g.T.Ord.cmp g.met.T.Ord.total c.pairs.ours c.pairs.theirs c.args.ours.now c.args.theirs.now c.pairs.first.now c.pairs.other.now
    (less_if (g.T.Ord.cmp c.pairs.first.now c.pairs.other.now) c.order_of-order.result c.is_lt.result c.order_of-order.ensures c.is_lt.ensures
    c.if-is_lt.true) c.pairs.invariant in
    let e = common_ours_end g.T.Ord.cmp g.met.T.Ord.total c.pairs.ours (c.pairs.other.now ∷ c.pairs.theirs) c.args.ours.now c.args.theirs.now ended.0 a in
    rw c.from_residual-in_err-first-2.ensures (e.0, ap (λ l. common g.T.Ord.cmp l c.pairs.theirs) ended.1, ended.1 ∙ sym e.1, inl ended.1)

pub pairs-preserved-then-is_lt : goal.pairs-preserved-then-is_lt
pairs-preserved-then-is_lt g c =
    subst (λ l. IsCommon g.T.Ord.cmp l (c.pairs.other.now ∷ c.pairs.theirs) c.args.ours.now c.args.theirs.now) c.in_ok-first-2.ensures.steps
    (common_less g.T.Ord.cmp g.met.T.Ord.total c.pairs.ours c.pairs.theirs c.args.ours.now c.args.theirs.now c.pairs.first.now c.pairs.other.now
    (less_if (g.T.Ord.cmp c.pairs.first.now c.pairs.other.now) c.order_of-order.result c.is_lt.result c.order_of-order.ensures c.is_lt.ensures
    c.if-is_lt.true) c.pairs.invariant)

pub returns-then-is_eq-clause-gives : goal.returns-then-is_eq-clause-gives
returns-then-is_eq-clause-gives g c = common_equal g.T.Ord.cmp g.met.T.Ord.total c.pairs.ours c.pairs.theirs c.args.ours.now c.args.theirs.now
    c.pairs.first.now c.pairs.other.now (equal_if (g.T.Ord.cmp c.pairs.first.now c.pairs.other.now) c.order_of-order.result c.is_eq.result
    c.order_of-order.ensures c.is_eq.ensures c.if-is_eq.true) c.pairs.invariant

pub returns-in_err-other-2-clause-gives : goal.returns-in_err-other-2-clause-gives
returns-in_err-other-2-clause-gives g c =
    let ended = c.in_err-other-2.ensures.steps in
    let a = common_greater g.T.Ord.cmp g.met.T.Ord.total c.pairs.ours c.pairs.theirs c.args.ours.now c.args.theirs.now c.pairs.first.now c.pairs.other.now
    (greater_else (g.T.Ord.cmp c.pairs.first.now c.pairs.other.now) c.order_of-order.result c.is_lt.result c.is_eq.result c.order_of-order.ensures
    c.is_lt.ensures c.if-is_lt.false c.is_eq.ensures c.if-is_eq.false) c.pairs.invariant in
    let e = common_theirs_end g.T.Ord.cmp g.met.T.Ord.total c.pairs.ours c.pairs.theirs c.args.ours.now c.args.theirs.now c.pairs.first.now ended.0 a in
    rw c.from_residual-in_err-other-2.ensures (
      e.0,
      ap (common g.T.Ord.cmp c.pairs.ours) ended.1
          ∙ common_of_none g.T.Ord.cmp c.pairs.ours,
      sym e.1,
      inr ended.1,
    )

pub pairs-preserved : goal.pairs-preserved
pairs-preserved g c =
    subst (λ l. IsCommon g.T.Ord.cmp (c.pairs.first.now ∷ c.pairs.ours) l c.args.ours.now c.args.theirs.now) c.in_ok-other-2.ensures.steps
    (common_greater g.T.Ord.cmp g.met.T.Ord.total c.pairs.ours c.pairs.theirs c.args.ours.now c.args.theirs.now c.pairs.first.now c.pairs.other.now
    (greater_else (g.T.Ord.cmp c.pairs.first.now c.pairs.other.now) c.order_of-order.result c.is_lt.result c.is_eq.result c.order_of-order.ensures
    c.is_lt.ensures c.if-is_lt.false c.is_eq.ensures c.if-is_eq.false) c.pairs.invariant)
