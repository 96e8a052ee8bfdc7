use Rattle.std.proofs.Common.{subst}
use Rattle.std.proofs.lemmas.Result.{err_from_is_err_and}
use Rattle.fc_base.specs.Copies.{MayRefuseCopies}
use Rattle.fc_hash.proofs.hashset.copy.TryHashSetTryClone.try_clone.Goals as goal

pub returns-in_err-insert_copies : goal.returns-in_err-insert_copies
returns-in_err-insert_copies g c =
    let p = err_from_is_err_and c.from_residual-in_err-insert_copies.result c.from_residual-in_err-insert_copies.ensures.1 in
    let refused = subst (λ ts. MayRefuseCopies g.T.TryClone.may_refuse ts c.in_err-insert_copies.field-0.0) c.iter.ensures.rest
    c.in_err-insert_copies.ensures.error in
    rw (p.1, p.2, ← c.self.view_is) refused
