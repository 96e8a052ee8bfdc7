use Rattle.std.proofs.Common.{arith}
use Rattle.fc_tree_cursor.specs.Leaf.{advanced}
use Rattle.fc_map.proofs.map.iter_mut.IterMut.for_each.Goals as goal

pub invariant_of-self : goal.invariant_of-self
invariant_of-self g c =
    let ends = c.args.self.ends in
    let front = c.visit.ensures.gaps (advanced c.args.self.front c.args.self.gone) ends.0 in
    let back = c.visit.ensures.gaps c.args.self.back ends.1 in
    let run = c.visit.ensures.gaps (advanced c.args.self.front c.args.self.full) c.args.self.run_is in
    let f = front.1 in
    let b = back.1 in
    let o = ends.2 in
    record {
      ends = (front.0, back.0, omega arith);
      run_is = run.0;
      front_counted = (let k = c.args.self.front_counted in omega arith);
      back_counted =
          (let k = c.args.self.back_counted in omega arith);
      within = c.args.self.within;
    }
