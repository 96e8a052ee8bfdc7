use Rattle.std.proofs.Common.{◌≡◌, suc, ◌-◌, ◌<◌, ◌≤◌, length, subst, arith}
use Rattle.fc_base.specs.Sizes.{capacity}
use Rattle.fc_tree_node.proofs.Lists.{all_at}
use Rattle.fc_tree_insertion.proofs.NewPairSteps.{IsFoundFrom, index_is, found_whole, found_split, found_none, found_all}
use Rattle.fc_tree_insertion.proofs.steps_to_new_pair.lead_within_halves.Goals as goal
use Rattle.fc_tree_insertion.proofs.steps_to_new_pair.lead_within_halves.Goals.{After-step-index}

pub loop-at-init : goal.loop-at-init
loop-at-init c = (omega arith, found_none c.args.place.now c.args.whole _ c.len-at.ensures.value)

-- the place before the one that the path has come to
there : (c : After-step-index) → c.loop-at.at - 1 < length c.args.place.now
there c = omega arith

found : (c : After-step-index) → IsFoundFrom c.args.place.now c.loop-at.place c.loop-at.right c.args.whole (suc (c.loop-at.at - 1))
found c =
    let e : c.loop-at.at ≡ suc (c.loop-at.at - 1) = omega arith in
    subst (IsFoundFrom c.args.place.now c.loop-at.place c.loop-at.right c.args.whole) e c.loop-at.invariant.1

pub step_from-step-requires : goal.step_from-step-requires
step_from-step-requires c =
    let at = (goal.at.step_from-step-requires c).After-step-index in
    let i = index_is _ _ _ c.args.whole _ (there at) (found at) in
    let small = all_at (λ k. k ≤ capacity) c.args.place.now (c.loop-at.at - 1) 0 (there at) c.requires in
    omega (arith, c.step-index.ensures)

pub loop-at-preserved-then-at-whole : goal.loop-at-preserved-then-at-whole
loop-at-preserved-then-at-whole c =
    let at = (goal.at.loop-at-preserved-then-at-whole c).After-step-index in
    let f = found_whole _ _ _ c.args.whole _ (there at) (found at) c.if-at-whole.true in
    (omega arith, simp (c.set.ensures, c.step_from-step.ensures, c.step-index.ensures) f)

pub loop-at-preserved : goal.loop-at-preserved
loop-at-preserved c =
    let at = (goal.at.loop-at-preserved c).After-step-index in
    let f = found_split _ _ _ c.args.whole _ (there at) (found at) c.if-at-whole.false in
    (omega arith, simp (c.set-else-at-whole.ensures, c.goes_right-right.ensures, c.half_step.ensures, c.step_from-step.ensures, c.step-index.ensures) f)

pub returns : goal.returns
returns c =
    let e : c.loop-at.at ≡ 0 = omega arith in
    let f = subst (IsFoundFrom c.args.place.now c.loop-at.place c.loop-at.right c.args.whole) e c.loop-at.invariant.1 in
    let a = found_all _ _ _ _ f in
    record { steps = a.0; right = a.1 }
