use Rattle.std.proofs.Common.{inr, subst}
use Rattle.std.proofs.lemmas.Result.{err_from_is_err_and}
use Rattle.std.specs.List.{Any}
use Rattle.fc_vec.specs.Joined.{joined}
use Rattle.fc_vec.proofs.CopyFacts.{one_refused}
use Rattle.fc_vec.proofs.vec.try_vec.copy.TryVec+TryVec+T+B+A.concat.Goals as goal

pub returns-in_err-push_parts-clause-error : goal.returns-in_err-push_parts-clause-error
returns-in_err-push_parts-clause-error g c =
    let p = err_from_is_err_and c.from_residual-in_err-push_parts.result c.from_residual-in_err-push_parts.ensures.1 in
    let refused = one_refused g.T.TryClone.same g.T.TryClone.may_refuse _ c.in_ok-made.made.items (joined c.as_slice-2.result.now) c.push_parts.new.made.items
    c.in_err-push_parts.ensures.error in
    rw (p.1, p.2) (inr (subst (λ parts. Any (λ x. g.T.TryClone.may_refuse x c.in_err-push_parts.field-0.0) (joined parts)) c.as_slice-2.ensures refused))
