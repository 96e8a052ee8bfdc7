use Rattle.std.proofs.Common.{◌-◌, inl, inr, length, ap, arith}
use Rattle.std.proofs.lemmas.Result.{err_from_is_err_and}
use Rattle.fc_vec.proofs.CopyFacts.{refused_repeated}
use Rattle.fc_vec.proofs.Refusals.{either}
use Rattle.fc_vec.proofs.vec.copies.try_from_elem.Goals as goal

pub returns-in_err-try_resize_no_copy-clause-error :
    goal.returns-in_err-try_resize_no_copy-clause-error
returns-in_err-try_resize_no_copy-clause-error g c =
    let p = err_from_is_err_and c.from_residual.result c.from_residual.ensures.1 in
    let none = ap length c.new-made.ensures.items in
    let old = c.new-made.result.items in
    rw (p.1, p.2) (either c.in_err-try_resize_no_copy.ensures.error (λ r. inl r.1) (λ u.
    let one = refused_repeated g.T.TryClone.same g.T.TryClone.may_refuse _ old c.try_resize_no_copy.new.self.items (c.args.n - length old - 1) c.args.elem u in
    inr (omega (arith, one.0, none), one.1)))
