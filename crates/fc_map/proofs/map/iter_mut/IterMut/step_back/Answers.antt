use Rattle.std.proofs.Common.{◌<◌, length, arith}
use Rattle.fc_tree_cursor.specs.Leaf.{advanced}
use Rattle.fc_tree_node.specs.TreePlace.{before_gap_in}
use Rattle.fc_map.proofs.EndFacts.{gap_less}
use Rattle.fc_map.proofs.map.iter_mut.IterMut.step_back.Goals as goal

pub invariant_of-self : goal.invariant_of-self
invariant_of-self g c =
    let w = c.args.self.now in
    let m = w.map.now in
    let t = c.step_to_previous-place in
    let is = c.if-is_done.false in
    let apart : length (before_gap_in m (advanced w.front w.gone)) < length (before_gap_in m w.back) = grind (arith, c.is_done.ensures.1, is) in
    let step = t.ensures.step in
    let front = w.front_counted in
    let back = w.back_counted in
    let full = c.no_more_than-self.ensures in
    let most = full.most in
    record {
      ends = (w.ends.0, t.ensures.gap, omega (arith, step, apart));
      run_is = gap_less m w.front w.full c.no_more_than-self.result w.run_is full.count;
      front_counted = front;
      back_counted = omega (arith, step, back);
      within = omega (arith, most, front, back, apart);
    }
