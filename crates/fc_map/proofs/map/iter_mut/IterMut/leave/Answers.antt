use Rattle.std.proofs.Common.{arith}
use Rattle.fc_map.proofs.EndFacts.{gap_less}
use Rattle.fc_map.proofs.map.iter_mut.IterMut.leave.Goals as goal

pub invariant_of-self : goal.invariant_of-self
invariant_of-self g c =
    let w = c.args.self.now in
    let t = c.cross_to_next_leaf-place in
    let step = t.ensures.step in
    let gone = t.ensures.gone in
    let front = w.front_counted in
    let back = w.back_counted in
    let order = w.ends.2 in
    let apart = c.if-at-self.false in
    let full = c.no_more_than-self.ensures in
    let most = full.most in
    record {
      ends = (t.ensures.gap, w.ends.1, omega (arith, step, front, back, order, apart));
      run_is = gap_less w.map.now t.new.path t.new.full c.no_more_than-self.result t.ensures.full full.count;
      front_counted = omega (arith, step, gone, front);
      back_counted = back;
      within = omega (arith, most, front, back, order, apart);
    }
