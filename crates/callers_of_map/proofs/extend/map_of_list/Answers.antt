use Rattle.std.proofs.Common.{◌∙◌, [], ap}
use Rattle.std.proofs.lemmas.Iterator.Adapters.{YieldsList-from_vec}
use Rattle.std.proofs.lemmas.Result.{IfOk-weaker}
use Rattle.fc_base.specs.Extended.{extended}
use Rattle.fc_vec.proofs.ItemFacts.{all_given}
use Rattle.callers_of_map.proofs.extend.map_of_list.Goals as goal

pub returns : goal.returns
returns g c = IfOk-weaker c.try_from_iterator.result _ _ (λ map w. w.2
    ∙ ap (extended g.K.Ord.cmp []) (all_given _ _ c.args.pairs.items _ (YieldsList-from_vec {s = w.1.0} _ w.1.1.0 (w.1.1.1 ∙ c.args.pairs.ok.0)) w.1.2))
    c.try_from_iterator.ensures.made
