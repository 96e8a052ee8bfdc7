use Rattle.std.proofs.Common.{◌≡◌, ◌-◌, ◌++◌, [], length, get_or, arith, sym, ap, subst, ◌∙◌}
use Rattle.std.specs.Prelude.{Bool, IsTrue, ◌↔◌, if◌then◌else◌, slice_range, slice_set}
use Rattle.fc_tree_node.specs.Node.{own_pairs}
use Rattle.fc_tree_cursor.specs.Gap.{AreEndsIn}
use Rattle.fc_tree_cursor.specs.Span.{between}
use Rattle.fc_tree_cursor.proofs.Leaves.{FrontTaken, front_takes, end_set}
use Rattle.fc_tree_cursor.proofs.run.take_first_of.Given as given
use Rattle.fc_tree_cursor.proofs.run.take_first_of.Goals as goal
use Rattle.fc_tree_cursor.proofs.run.take_first_of.Goals.{After-len-last}

taken : (g : given.Over) (c : After-len-last g)
    → FrontTaken c.args.root.now c.args.front.now c.args.back.now c.args.leaf.now (c.len-last.result - 1) c.reach-end.result.0
    × (IsTrue c.reach-end.result.1
    ↔ (between c.args.root.now (slice_set c.args.front.now (c.len-last.result - 1) c.reach-end.result.0) c.args.back.now ≡ []))
taken g c =
    let other = get_or c.args.back.now (length c.args.front.now - 1) 0 in
    front_takes c.args.root.now _ c.args.leaf.now c.args.front.now c.args.back.now (c.len-last.result - 1) _ _ c.in-Some.is c.requires.sound c.requires.ends
    (c.requires.leaf _ c.in-Some.is) (ap (λ k. k - 1) c.len-last.ensures.value) c.reach-end.ensures.met
    (c.reach-end.ensures.place ∙ ap (λ k. if c.reach-end.result.1 then other else k) c.len.ensures.value)

pub set-requires-clause-small : goal.set-requires-clause-small
set-requires-clause-small g c =
    let fits = (taken g (goal.at.set-requires-clause-small g c).After-len-last).0.fits in
    let full = c.len.ensures in
    omega (arith, fits, full.value, full.fits)

pub part-requires : goal.part-requires
part-requires g c =
    let r = taken g (goal.at.part-requires g c).After-len-last in
    record { order = omega arith; fits = r.0.fits }

pub returns : goal.returns
returns g c =
    let r = taken g (goal.at.returns g c).After-len-last in
    let m = c.args.root.now in
    let front = c.args.front.now in
    let back = c.args.back.now in
    let last = c.len-last.result - 1 in
    let end = c.reach-end.result.0 in
    let set = c.set.ensures in
    let reached = λ (met : Bool). if met then get_or back (length front - 1) 0 else c.len.result in
    let part = c.part.ensures ∙ ap (λ i. slice_range (own_pairs c.args.leaf.now) i end) c.step-start.ensures in
    record {
      leaf = (_, set ∙ ap (λ k. slice_set front k end) (ap (λ k. k - 1) c.len-last.ensures.value));
      ends = subst (λ p. AreEndsIn m p back) (sym set) r.0.ends;
      run = r.0.run ∙ ap (λ xs. xs ++ between m (slice_set front last end) back) (sym part) ∙ ap (λ p. c.part.result.now ++ between m p back) (sym set);
      all = λ apart. end_set m _ c.args.leaf.now front _ last end c.in-Some.is c.requires.sound c.requires.ends.0 (c.requires.leaf _ c.in-Some.is)
          (ap (λ k. k - 1) c.len-last.ensures.value) set (c.reach-end.ensures.place ∙ ap reached apart ∙ c.len.ensures.value);
      met = (λ t. ap (λ p. between m p back) set ∙ r.1.0 t, λ e. r.1.1 (ap (λ p. between m p back) (sym set) ∙ e));
    }
