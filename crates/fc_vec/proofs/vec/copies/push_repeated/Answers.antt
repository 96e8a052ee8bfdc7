use Rattle.std.proofs.Common.{arith, ◌∙◌}
use Rattle.std.proofs.lemmas.Result.{err_from_is_err_and}
use Rattle.fc_vec.proofs.CopyFacts.{one_repeated, front_repeated}
use Rattle.fc_vec.proofs.vec.copies.push_repeated.Goals as goal

pub returns-in_err-copy-clause-error : goal.returns-in_err-copy-clause-error
returns-in_err-copy-clause-error g c =
    let p = err_from_is_err_and c.from_residual.result c.from_residual.ensures.1 in
    rw (p.1, p.2) (front_repeated g.T.TryClone.same c.args.count c.args.source.now g.T.TryClone.may_refuse _ c.args.v.now.items c.loop-i.v.items c.loop-i.i
    (omega (arith, c.loop-i-test.true)) c.loop-i.invariant.2 c.in_err-copy.ensures)

pub loop-i-preserved : goal.loop-i-preserved
loop-i-preserved g c =
    let v = c.loop-i.invariant in (
      omega (arith, v.0, c.push_reserved.ensures.len),
      c.push_reserved.ensures.capacity
          ∙ v.1,
      one_repeated g.T.TryClone.same c.args.count c.args.source.now c.args.v.now.items c.loop-i.v.items c.push_reserved.new.self.items c.loop-i.i
          c.in_ok-copy.copy (omega (arith, c.loop-i-test.true)) v.2 c.in_ok-copy.ensures c.push_reserved.ensures.items,
    )
