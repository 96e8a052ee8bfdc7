use Rattle.std.proofs.Common.{arith, refl, ◌∙◌}
use Rattle.std.proofs.lemmas.Result.{err_from_is_err_and}
use Rattle.fc_base.proofs.CopiedFacts.{none_copied, one_copied, all_copied, front_copied}
use Rattle.fc_base.proofs.try_clone.TryClone.try_clone_all.Goals as goal

pub returns-in_err-copy-clause-error : goal.returns-in_err-copy-clause-error
returns-in_err-copy-clause-error g c =
    let p = err_from_is_err_and c.from_residual.result c.from_residual.ensures.1 in
    rw (p.1, p.2) (front_copied g.Self.TryClone.same g.Self.TryClone.may_refuse _ c.args.copies.now.items c.args.sources.now c.loop-i.copies.items c.loop-i.i
    c.index-sources-i.result (omega (arith, c.loop-i-test.true, c.loop-i.invariant.0)) c.index-sources-i.is c.loop-i.invariant.3 c.in_err-copy.ensures)

pub loop-i-init : goal.loop-i-init
loop-i-init g c = (refl, omega arith, refl, none_copied g.Self.TryClone.same c.args.copies.now.items c.args.sources.now)

pub loop-i-preserved : goal.loop-i-preserved
loop-i-preserved g c =
    let v = c.loop-i.invariant in (
      refl,
      omega (arith, v.1, c.push_reserved.ensures.len),
      c.push_reserved.ensures.capacity ∙ v.2,
      one_copied g.Self.TryClone.same c.args.copies.now.items c.args.sources.now c.loop-i.copies.items c.push_reserved.new.self.items c.loop-i.i
          c.index-sources-i.result
          c.in_ok-copy.copy (omega (arith, c.loop-i-test.true, c.loop-i.invariant.0)) c.index-sources-i.is v.3 c.in_ok-copy.ensures
          c.push_reserved.ensures.items,
    )

pub returns-clause-extended : goal.returns-clause-extended
returns-clause-extended g c =
    all_copied g.Self.TryClone.same c.args.copies.now.items c.args.sources.now c.loop-i.copies.items c.loop-i.i
    (omega (arith, c.loop-i-test.false, c.loop-i.invariant.0)) c.loop-i.invariant.3
