use Rattle.std.proofs.Common.{◌+◌, ◌-◌, ◌<◌, get_or, length, sym, ap, subst, ◌∙◌, arith}
use Rattle.std.specs.Prelude.{slice_set, option_copied}
use Rattle.fc_tree_node.specs.Node.{own_pairs, child_at}
use Rattle.fc_tree_cursor.specs.Gap.{IsAbove}
use Rattle.fc_tree_cursor.proofs.Betweens.{gap_fits}
use Rattle.fc_tree_cursor.proofs.Ways.{IsNearStep, near_step, near_leaf, near_back}
use Rattle.fc_tree_cursor.proofs.run.next_back_unchecked.Given as given
use Rattle.fc_tree_cursor.proofs.run.next_back_unchecked.Goals as goal
use Rattle.fc_tree_cursor.proofs.run.next_back_unchecked.Goals.{After-step-place}

steps : (g : given.Over) (c : After-step-place g) → IsNearStep c.args.root.now c.args.gap.now c.in-Some.node.now (c.len-last.result - 1) c.step-place.result
steps g c =
    let m = c.args.root.now in
    let gap = c.args.gap.now in
    let all = gap_fits m c.requires.sound gap c.requires.gap in
    near_step m gap c.in-Some.node.now _ _ c.requires.sound c.requires.gap (subst (λ a. IsAbove m gap (option_copied a)) c.in-Some.is c.requires.above)
    (omega arith) (ap (λ k. k - 1) c.len-last.ensures.value) c.step-place.ensures

pub child-leaf-requires : goal.child-leaf-requires
child-leaf-requires g c =
    let s = steps g (goal.at.child-leaf-requires g c).After-step-place in
    omega (arith, s.within, s.inner, c.if-place-gt0.true)

pub set-requires-clause-small : goal.set-requires-clause-small
set-requires-clause-small g c =
    let s = steps g (goal.at.set-requires-clause-small g c).After-step-place in
    omega (arith, s.within, s.fits)

pub pair-requires : goal.pair-requires
pair-requires g c =
    let s = steps g (goal.at.pair-requires g c).After-step-place in
    omega (arith, s.within, c.if-place-gt0.true)

pub returns-then-step-eq0 : goal.returns-then-step-eq0
returns-then-step-eq0 g c =
    let s = steps g (goal.at.returns-then-step-eq0 g c).After-step-place in
    let m = c.args.root.now in
    let gap = c.args.gap.now in
    let n = c.in-Some.node.now in
    let x = s.way in
    let i = get_or gap x.level 0 in
    let mid = c.set.new.self in
    let new = c.set-then-step-eq0.new.self in
    let some : 0 < i = omega (arith, s.step, c.if-place-gt0.true) in
    let leaf = c.child-leaf.ensures ∙ ap (λ k. child_at n (k - 1)) s.step in
    let e = c.set.ensures ∙ ap (λ k. slice_set gap k (c.step-place.result - 1)) s.above ∙ ap (λ k. slice_set gap x.level (k - 1)) s.step in
    let f = c.set-then-step-eq0.ensures ∙ ap (λ k. slice_set mid k c.len.result) s.end ∙ ap (slice_set mid (x.level + 1))
    (c.len.ensures.value ∙ ap (λ d. length (own_pairs d)) leaf) in
    let first = sym (c.step.ensures ∙ ap (λ k. get_or gap k 0) s.end) ∙ c.if-step-eq0.true in
    let r = near_back m gap mid new n x c.requires.sound c.pair.result.now some first e f
    (c.pair.ensures ∙ ap (λ k. get_or (own_pairs n) (k - 1) c.pair.result.now) s.step) in
    let q = near_leaf m gap mid new n x (i - 1) (length (own_pairs (child_at n (i - 1)))) e f in
    record {
      gap = r.slot;
      above = subst (λ a. IsAbove m new (option_copied a)) (sym c.in-Some.is) q.0;
      step = r.step;
      pair = r.pair;
      leaf = λ d p. leaf ∙ q.1 d p;
    }
