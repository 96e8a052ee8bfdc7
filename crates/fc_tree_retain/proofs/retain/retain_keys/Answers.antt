use Rattle.fc_tree_retain.specs.Retained.{AskedAtKey}
use Rattle.fc_tree_retain.proofs.Kept.{as_retained}
use Rattle.fc_tree_retain.proofs.retain.retain_keys.Goals as goal

pub returns-clause-retained : goal.returns-clause-retained
returns-clause-retained g c = (
  c.filter_tree.new.filter.keep,
  as_retained _ _ (AskedAtKey g.F.FnMut) (λ s. s.keep) (λ s t e w b a. a) (λ s t e q. q) _ _ _ _
      c.filter_tree.ensures.filtered,
)
