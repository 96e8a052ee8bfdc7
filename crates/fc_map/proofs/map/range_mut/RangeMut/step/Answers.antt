use Rattle.std.proofs.Common.{arith}
use Rattle.fc_map.proofs.map.range_mut.RangeMut.step.Goals as goal

pub step_to_next-place-requires-clause-some : goal.step_to_next-place-requires-clause-some
step_to_next-place-requires-clause-some g c =
    let w = c.args.self.now in
    let is = c.if-is_done.false in
    (w.back, w.ends.1, grind (arith, c.is_done.ensures.1, is))
