use Rattle.std.proofs.Common.{◌+◌, ◌-◌, ◌<◌, ◌≤◌, get_or, length, sym, ap, subst, ◌∙◌, arith}
use Rattle.std.specs.Prelude.{slice_set, option_copied}
use Rattle.fc_tree_node.specs.Node.{own_pairs, child_at}
use Rattle.fc_tree_cursor.specs.Gap.{IsAbove}
use Rattle.fc_tree_cursor.proofs.Ways.{IsNearStep, near_step, near_leaf, near_next}
use Rattle.fc_tree_cursor.proofs.run.next_unchecked.Given as given
use Rattle.fc_tree_cursor.proofs.run.next_unchecked.Goals as goal
use Rattle.fc_tree_cursor.proofs.run.next_unchecked.Goals.{After-step-place}

steps : (g : given.Over) (c : After-step-place g) → IsNearStep c.args.root.now c.args.gap.now c.in-Some.node.now (c.len-last.result - 1) c.step-place.result
steps g c =
    let m = c.args.root.now in
    let gap = c.args.gap.now in
    near_step m gap c.in-Some.node.now _ _ c.requires.sound c.requires.gap (subst (λ a. IsAbove m gap (option_copied a)) c.in-Some.is c.requires.above)
    (omega arith) (ap (λ k. k - 1) c.len-last.ensures.value) c.step-place.ensures

pub child-requires : goal.child-requires
child-requires g c =
    let s = steps g (goal.at.child-requires g c).After-step-place in
    omega (arith, s.within, s.inner)

pub child-requires-then-len-step : goal.child-requires-then-len-step
child-requires-then-len-step g c =
    let s = steps g (goal.at.child-requires-then-len-step g c).After-step-place in
    omega (arith, s.inner, c.len.ensures.value, c.if-place-len.true)

pub returns-then-len-step : goal.returns-then-len-step
returns-then-len-step g c =
    let s = steps g (goal.at.returns-then-len-step g c).After-step-place in
    let m = c.args.root.now in
    let gap = c.args.gap.now in
    let n = c.in-Some.node.now in
    let x = s.way in
    let i = get_or gap x.level 0 in
    let mid = c.set.new.self in
    let new = c.set-then-len-step.new.self in
    let e = c.set.ensures ∙ ap (λ k. slice_set gap k (c.step-place.result + 1)) s.above ∙ ap (λ k. slice_set gap x.level (k + 1)) s.step in
    let f = c.set-then-len-step.ensures ∙ ap (λ k. slice_set mid k 0) s.end in
    let own : i < length (own_pairs n) = omega (arith, s.step, c.len.ensures.value, c.if-place-len.true) in
    let leaf = ap (λ d. length (own_pairs d)) (c.child.ensures ∙ ap (child_at n) s.step) in
    let last = c.step.ensures ∙ ap (λ k. get_or gap k 0) s.end in
    let full : length (own_pairs (child_at n i)) ≤ get_or gap (x.level + 1) 0 =
    omega (arith, leaf, last, c.len-then-place-len.ensures.value, c.if-len-step.true) in
    let r = near_next m gap mid new n x c.requires.sound c.pair.result.now own full e f
    (c.pair.ensures ∙ ap (λ k. get_or (own_pairs n) k c.pair.result.now) s.step) in
    let q = near_leaf m gap mid new n x (i + 1) 0 e f in
    record {
      gap = r.slot;
      above = subst (λ a. IsAbove m new (option_copied a)) (sym c.in-Some.is) q.0;
      step = r.step;
      pair = r.pair;
      leaf = λ d p. c.child-then-len-step.ensures ∙ ap (λ k. child_at n (k + 1)) s.step ∙ q.1 d p;
    }
