use Rattle.std.proofs.Common.{Some, refl}
use Rattle.fc_set.specs.Operations.{symmetric_difference}
use Rattle.fc_set.proofs.StepFacts.{symmetric_theirs_step, symmetric_ours_step, symmetric_on_step, yields_first, stands_after}
use Rattle.fc_set.proofs.set.symmetric_difference.SymmetricDifference.next.Goals as goal

pub returns-in_default-clause-steps : goal.returns-in_default-clause-steps
returns-in_default-clause-steps g c =
    let step = symmetric_theirs_step g.T.Ord.cmp g.met.T.Ord.total _ _ _ _ _ c.pairs.invariant.0 c.pairs.invariant.1 _ _
    c.next.ensures.ours c.next.ensures.theirs c.next.ensures.firsts c.in_default.is in
    rw (← c.self.view_is) (yields_first g.T.Ord.cmp g.met.T.Ord.total (symmetric_difference g.T.Ord.cmp) c.next.result.1
    c.self.inside.sides.left c.self.inside.sides.right c.next.new.self refl step)

pub returns-in_default-clause-after : goal.returns-in_default-clause-after
returns-in_default-clause-after g c =
    let step = symmetric_theirs_step g.T.Ord.cmp g.met.T.Ord.total _ _ _ _ _ c.pairs.invariant.0 c.pairs.invariant.1 _ _
    c.next.ensures.ours c.next.ensures.theirs c.next.ensures.firsts c.in_default.is in
    rw (← c.self.view_is) (stands_after g.T.Ord.cmp g.met.T.Ord.total (symmetric_difference g.T.Ord.cmp) c.next.result.1
    c.self.inside.sides c.next.new.self step)

pub pairs-preserved : goal.pairs-preserved
pairs-preserved g c =
    symmetric_on_step g.T.Ord.cmp g.met.T.Ord.total _ _ _ _ _ c.pairs.invariant.0 c.pairs.invariant.1 _ _ c.next.ensures.ours
    c.next.ensures.theirs c.next.ensures.firsts c.in-Some.ours _ c.in-Some.is c.in-Some-theirs.is

pub returns-in_default-theirs-clause-steps : goal.returns-in_default-theirs-clause-steps
returns-in_default-theirs-clause-steps g c =
    let step = symmetric_ours_step g.T.Ord.cmp g.met.T.Ord.total _ _ _ _ _ c.pairs.invariant.0 c.pairs.invariant.1 _ _
    c.next.ensures.ours c.next.ensures.theirs c.next.ensures.firsts c.in-Some.ours c.in-Some.is c.in_default-theirs.is in
    rw (← c.self.view_is) (yields_first g.T.Ord.cmp g.met.T.Ord.total (symmetric_difference g.T.Ord.cmp) (Some c.in-Some.ours)
    c.self.inside.sides.left c.self.inside.sides.right c.next.new.self refl step)

pub returns-in_default-theirs-clause-after : goal.returns-in_default-theirs-clause-after
returns-in_default-theirs-clause-after g c =
    let step = symmetric_ours_step g.T.Ord.cmp g.met.T.Ord.total _ _ _ _ _ c.pairs.invariant.0 c.pairs.invariant.1 _ _
    c.next.ensures.ours c.next.ensures.theirs c.next.ensures.firsts c.in-Some.ours c.in-Some.is c.in_default-theirs.is in
    rw (← c.self.view_is) (stands_after g.T.Ord.cmp g.met.T.Ord.total (symmetric_difference g.T.Ord.cmp) (Some c.in-Some.ours)
    c.self.inside.sides c.next.new.self step)
