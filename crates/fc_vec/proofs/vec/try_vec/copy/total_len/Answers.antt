use Rattle.std.proofs.Common.{arith, refl}
use Rattle.fc_vec.proofs.CopyFacts.{joined_length}
use Rattle.fc_vec.proofs.Refusals.{not_below}
use Rattle.fc_vec.proofs.vec.try_vec.copy.total_len.Goals as goal

pub returns-in_err-total : goal.returns-in_err-total
returns-in_err-total g c =
    let long = joined_length c.args.parts.now c.loop-i.i c.index-parts-i.result (omega (arith, c.loop-i-test.true, c.loop-i.invariant.0)) c.index-parts-i.is in
    rw c.from_residual.ensures (omega (arith, long.1, c.loop-i.invariant.1, c.len.ensures, not_below _ _ c.in_err-total.ensures))

pub loop-i-preserved : goal.loop-i-preserved
loop-i-preserved g c =
    let long = joined_length c.args.parts.now c.loop-i.i c.index-parts-i.result (omega (arith, c.loop-i-test.true, c.loop-i.invariant.0)) c.index-parts-i.is in
    (refl, omega (arith, long.0, c.loop-i.invariant.1, c.len.ensures, c.in_ok-total.ensures.1))
