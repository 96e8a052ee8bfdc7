use Rattle.std.proofs.Common.{rules, arith}
use Rattle.std.proofs.lemmas.Result.{err_from_is_err_and}
use Rattle.fc_base.specs.Copies.{MayRefusePair}
use Rattle.fc_tree_copy.specs.Copy.{AreSame}
use Rattle.fc_tree_copy.proofs.CopyFacts.{many_copied, one_copied, all_copied, refused_at}
use Rattle.fc_tree_copy.proofs.copy.try_copy_pairs.Goals as goal

pub returns-in_err-pair-clause-error : goal.returns-in_err-pair-clause-error
returns-in_err-pair-clause-error g c =
    let may = MayRefusePair g.K.TryClone.may_refuse g.V.TryClone.may_refuse in
    let p = err_from_is_err_and c.from_residual-in_err-pair.result c.from_residual-in_err-pair.ensures.1 in
    rw (p.1, p.2) (refused_at may c.in_err-pair.field-0.0 c.args.pairs.now c.loop-i.i c.get.result.now (omega (arith, c.loop-i.invariant.0)) c.get.ensures
    c.in_err-pair.ensures.error)

pub push-requires : goal.push-requires
push-requires g c =
    let i = c.loop-i.invariant in
    let many = many_copied (AreSame g.K.TryClone.same g.V.TryClone.same) c.loop-i.i c.args.pairs.now c.loop-i.copies (omega (arith, i.0)) i.1 in
    (search (rules, g.met.A.Handle.small, g.met.A.Handle.plain), search (rules, many, i.0))

pub loop-i-preserved : goal.loop-i-preserved
loop-i-preserved g c =
    let i = c.loop-i.invariant in (
      i.0,
      one_copied (AreSame g.K.TryClone.same g.V.TryClone.same) c.loop-i.i c.args.pairs.now c.loop-i.copies c.push.new.self c.get.result.now
          c.in_ok-pair.pair (omega (arith, i.0)) c.get.ensures i.1 c.in_ok-pair.ensures.copied c.push.ensures.items,
    )

pub returns-clause-copied : goal.returns-clause-copied
returns-clause-copied g c =
    let i = c.loop-i.invariant in
    all_copied (AreSame g.K.TryClone.same g.V.TryClone.same) c.loop-i.i c.args.pairs.now c.loop-i.copies (omega (arith, i.0)) i.1
