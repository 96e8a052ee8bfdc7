use Rattle.std.proofs.Common.{◌∙◌}
use Rattle.std.proofs.lemmas.Iterator.{items_from_collect}
use Rattle.std.proofs.lemmas.Iterator.Consumers.{YieldsList-from_copied, YieldsList-from_first}
use Rattle.callers_of_map.proofs.iter.all_values.Goals as goal

pub returns : goal.returns
returns g c = items_from_collect _ c.collect.ensures.ran (YieldsList-from_copied
    (YieldsList-from_first (λ y. y.now) (λ s. s) _ (c.copied.ensures.source ∙ c.values.ensures.values)))
