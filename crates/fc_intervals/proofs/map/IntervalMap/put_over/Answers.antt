use Rattle.std.proofs.Common.{IfErr, OnOk, subst}
use Rattle.fc_map.specs.Entries.{entries}
use Rattle.fc_intervals.specs.Put.{IsPut}
use Rattle.fc_intervals.specs.Refusals.{MayRefusePut}
use Rattle.fc_intervals.proofs.map.IntervalMap.put_over.Goals as goal

pub returns-clause-error : goal.returns-clause-error
returns-clause-error g c =
    subst (λ s. IfErr c.put.result (λ e. MayRefusePut g.K.Ord.cmp g.V.TryClone.may_refuse s c.args.start c.args.end e.1)) c.self.view_is c.put.ensures.error

pub returns-clause-put : goal.returns-clause-put
returns-clause-put g c =
    subst (λ s. OnOk c.put.result (IsPut g.K.Ord.cmp g.V.TryClone.same c.args.start c.args.end c.args.value s (entries c.put.new.map)))
    c.self.view_is c.put.ensures.put
