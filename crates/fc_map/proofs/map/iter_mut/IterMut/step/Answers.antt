use Rattle.std.proofs.Common.{◌+◌, arith, sym, subst}
use Rattle.fc_tree_cursor.specs.Leaf.{advanced}
use Rattle.fc_tree_cursor.specs.Gap.{IsGapIn}
use Rattle.fc_map.proofs.EndFacts.{gap_less}
use Rattle.fc_map.proofs.map.iter_mut.IterMut.step.Goals as goal

pub step_in_leaf-requires-clause-gap : goal.step_in_leaf-requires-clause-gap
step_in_leaf-requires-clause-gap g c = let w = c.args.self.now in let less = c.if-self.true in
    gap_less w.map.now w.front w.full (w.gone + 1) w.run_is (omega (arith, less))

pub invariant_of-self : goal.invariant_of-self
invariant_of-self g c =
    let w = c.args.self.now in
    let less = c.if-self.true in
    let gap = gap_less w.map.now w.front w.full (w.gone + 1) w.run_is (omega (arith, less)) in
    let step = c.step_in_leaf.ensures.step in
    let gone = c.step_in_leaf.ensures.gone in
    let front = w.front_counted in
    let back = w.back_counted in
    let within = w.within in
    record {
      ends = (subst (λ k. IsGapIn w.map.now (advanced w.front k)) (sym gone) gap, w.ends.1, omega (arith, step, front, back, within, less));
      run_is = w.run_is;
      front_counted = omega (arith, step, gone, front);
      back_counted = back;
      within = within;
    }
