use Rattle.std.proofs.Common.{◌∙◌, ap, subst}
use Rattle.std.proofs.lemmas.Iterator.Consumers.{YieldsList-from_first}
use Rattle.std.proofs.lemmas.Result.{on_ok_weaker, IfErr-weaker}
use Rattle.fc_base.specs.Extended.{extended, IsExtendedUpTo}
use Rattle.fc_vec.proofs.ItemFacts.{all_given, front_given}
use Rattle.fc_map.specs.Entries.{entries}
use Rattle.callers_of_map.proofs.Stopped.{stopped_before}
use Rattle.callers_of_map.proofs.extend.extend_by_map.Goals as goal

pub returns-clause-all : goal.returns-clause-all
returns-clause-all g c = on_ok_weaker c.try_extend.result (λ w. w.2 ∙ ap (extended g.K.Ord.cmp (entries c.args.map.now))
    (all_given _ _ (entries c.args.other) _ (YieldsList-from_first (λ s. s) (λ s. s) {s = w.1.0} (entries c.args.other) w.1.1.0) w.1.2))
    c.try_extend.ensures.all

pub returns-clause-error : goal.returns-clause-error
returns-clause-error g c = IfErr-weaker c.try_extend.result _ _ (λ e w. let f = front_given _ _ (entries c.args.other) _
    (YieldsList-from_first (λ s. s) (λ s. s) {s = w.1.0} (entries c.args.other) w.1.1.0) w.1.2 w.1.3 in
    subst (λ l. IsExtendedUpTo g.K.Ord.cmp (entries c.args.map.now) l (entries c.try_extend.new.self) e) f.1
    (stopped_before g.K.Ord.cmp (entries c.args.map.now) (entries c.try_extend.new.self) e w.0 f.0 w.2)) c.try_extend.ensures.error
