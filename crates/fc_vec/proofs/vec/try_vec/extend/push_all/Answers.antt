use Rattle.std.proofs.Common.{◌∷◌, ◌++◌, [], ◌∙◌, length, sym, subst}
use Rattle.std.proofs.lemmas.Result.{err_from_is_err_and}
use Rattle.std.specs.Prelude.{vec_capacity}
use Rattle.fc_vec.specs.Vectors.{MayRefuse}
use Rattle.fc_vec.proofs.ItemFacts.{yields_more}
use Rattle.fc_vec.proofs.vec.try_vec.extend.push_all.Goals as goal

pub returns-in_err-try_push-clause-error : goal.returns-in_err-try_push-clause-error
returns-in_err-try_push-clause-error g c =
    let p = err_from_is_err_and c.from_residual.result c.from_residual.ensures.1 in
    let taken = yields_more g.I.IntoIter.Iterator.next_gives c.into_iter-item-iterator.result c.loop-item.item-iterator c.next.new.self c.loop-item.yielded
    c.in-Some.item c.loop-item.yielded_by c.in-Some.ensures.steps in
    let refused = c.in_err-try_push.ensures.error in
    rw (p.1, p.2) (
      c.loop-item.yielded,
      c.in-Some.item,
      (
        c.into_iter-item-iterator.result,
        c.into_iter-item-iterator.ensures.into_iter_gives,
        c.next.new.self,
        taken,
      ),
      refused.1
          ∙ c.loop-item.invariant.2,
      subst (λ m. MayRefuse m (length c.try_push.new.self.items) 1 c.in_err-try_push.field-0.0) (sym refused.2)
          (subst (λ l. MayRefuse (vec_capacity c.loop-item.v) (length l) 1 c.in_err-try_push.field-0.0) (sym refused.1) refused.0),
    )
