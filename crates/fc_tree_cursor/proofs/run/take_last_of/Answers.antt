use Rattle.std.proofs.Common.{◌≡◌, ◌-◌, ◌++◌, [], length, get_or, rules, arith, sym, ap, subst, ◌∙◌}
use Rattle.std.specs.Prelude.{Bool, IsTrue, ◌↔◌, if◌then◌else◌, slice_range, slice_set}
use Rattle.fc_tree_node.specs.Node.{own_pairs}
use Rattle.fc_tree_cursor.specs.Gap.{AreEndsIn}
use Rattle.fc_tree_cursor.specs.Span.{between}
use Rattle.fc_tree_cursor.proofs.GapFacts.{gap_small}
use Rattle.fc_tree_cursor.proofs.Leaves.{BackTaken, back_takes, start_set}
use Rattle.fc_tree_cursor.proofs.run.take_last_of.Given as given
use Rattle.fc_tree_cursor.proofs.run.take_last_of.Goals as goal
use Rattle.fc_tree_cursor.proofs.run.take_last_of.Goals.{After-len-last}

taken : (g : given.Over) (c : After-len-last g)
    → BackTaken c.args.root.now c.args.front.now c.args.back.now c.args.leaf.now (c.len-last.result - 1) c.reach-start.result.0
    × (IsTrue c.reach-start.result.1
    ↔ (between c.args.root.now c.args.front.now (slice_set c.args.back.now (c.len-last.result - 1) c.reach-start.result.0) ≡ []))
taken g c =
    back_takes c.args.root.now _ c.args.leaf.now c.args.front.now c.args.back.now (c.len-last.result - 1) _ _ c.in-Some.is c.requires.sound c.requires.ends
    (c.requires.leaf _ c.in-Some.is) (ap (λ k. k - 1) c.len-last.ensures.value) c.reach-start.ensures.met c.reach-start.ensures.place

pub set-requires-clause-small : goal.set-requires-clause-small
set-requires-clause-small g c =
    let r = taken g (goal.at.set-requires-clause-small g c).After-len-last in
    let order = r.0.order in
    let small = gap_small c.args.root.now c.args.back.now (c.len-last.result - 1) c.requires.sound c.requires.ends.1 (search rules) in
    omega (arith, order, small)

pub part-requires : goal.part-requires
part-requires g c =
    let r = taken g (goal.at.part-requires g c).After-len-last in
    record { order = omega arith; fits = omega arith }

pub returns : goal.returns
returns g c =
    let r = taken g (goal.at.returns g c).After-len-last in
    let m = c.args.root.now in
    let front = c.args.front.now in
    let back = c.args.back.now in
    let last = c.len-last.result - 1 in
    let start = c.reach-start.result.0 in
    let set = c.set.ensures in
    let reached = λ (met : Bool). if met then get_or front (length back - 1) 0 else 0 in
    let part = c.part.ensures ∙ ap (slice_range (own_pairs c.args.leaf.now) start) c.step-end.ensures in
    record {
      leaf = (_, set ∙ ap (λ k. slice_set back k start) (ap (λ k. k - 1) c.len-last.ensures.value));
      ends = subst (λ p. AreEndsIn m front p) (sym set) r.0.ends;
      run = r.0.run ∙ ap (λ xs. between m front (slice_set back last start) ++ xs) (sym part) ∙ ap (λ p. between m front p ++ c.part.result.now) (sym set);
      all = λ apart. start_set m _ back _ last start c.in-Some.is c.requires.sound c.requires.ends.1 (ap (λ k. k - 1) c.len-last.ensures.value) set
          (c.reach-start.ensures.place ∙ ap reached apart);
      met = (λ t. ap (λ p. between m front p) set ∙ r.1.0 t, λ e. r.1.1 (ap (λ p. between m front p) (sym set) ∙ e));
    }
