use Rattle.std.proofs.Common.{◌∷◌, ◌++◌, [], arith, length}
use Rattle.std.proofs.lemmas.Result.{err_from_is_err_and}
use Rattle.fc_vec.proofs.ItemFacts.{yields_more}
use Rattle.fc_vec.proofs.Refusals.{no_overflow, some_taken}
use Rattle.fc_vec.proofs.vec.collect.VecTryFromIterator.try_from_iterator.Goals as goal

pub returns-in_err-try_push-clause-error : goal.returns-in_err-try_push-clause-error
returns-in_err-try_push-clause-error g c =
    let p = err_from_is_err_and c.from_residual.result c.from_residual.ensures.1 in
    let made = c.loop-item.made in
    let taken = yields_more g.T.IntoIter.Iterator.next_gives c.into_iter-item-iterator.result c.loop-item.item-iterator c.next.new.self c.loop-item.yielded
    c.in-Some.item c.loop-item.yielded_by c.in-Some.ensures.steps in
    rw (p.1, p.2) (
      c.loop-item.yielded ++ c.in-Some.item ∷ [],
      (
        c.into_iter-item-iterator.result,
        c.into_iter-item-iterator.ensures.into_iter_gives,
        c.next.new.self,
        taken,
      ),
      (
        some_taken c.loop-item.yielded c.in-Some.item,
        no_overflow _ (length made.items) 1 _ (omega (arith, made.ok.0, made.ok.1, made.small)) c.in_err-try_push.ensures.error.0,
      ),
    )
