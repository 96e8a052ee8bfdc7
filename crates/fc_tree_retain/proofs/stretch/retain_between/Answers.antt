use Rattle.fc_tree_retain.specs.Retained.{AskedAtPair}
use Rattle.fc_tree_retain.proofs.Kept.{as_retained}
use Rattle.fc_tree_retain.proofs.stretch.retain_between.Goals as goal

pub returns-clause-retained : goal.returns-clause-retained
returns-clause-retained g c =
    let e = c.filter_tree_range.ensures.filtered in (
      e.0.keep,
      e.1,
      as_retained _ _ (AskedAtPair g.F.FnMut) (λ s. s.keep) (λ s t e w b a. a) (λ s t e q. q) _ _ _ _ e.2,
      e.3,
    )
