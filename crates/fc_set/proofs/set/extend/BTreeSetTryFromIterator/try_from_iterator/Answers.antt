use Rattle.std.proofs.lemmas.Result.{IfOk-weaker}
use Rattle.fc_map.proofs.OpenFacts.{err_weaker}
use Rattle.fc_set.proofs.set.extend.BTreeSetTryFromIterator.try_from_iterator.Goals as goal

pub returns-clause-made : goal.returns-clause-made
returns-clause-made g c =
    IfOk-weaker c.try_from_iterator_asked.result _ _ (λ made all. (all.0, all.1, all.2)) c.try_from_iterator_asked.ensures.made

pub returns-clause-error : goal.returns-clause-error
returns-clause-error g c =
    err_weaker c.try_from_iterator_asked.result _ _ (λ e taken. (taken.0, taken.1, taken.2)) c.try_from_iterator_asked.ensures.error
