use Rattle.fc_tree_retain.specs.Retained.{AskedAtKey, GivenKey}
use Rattle.fc_tree_retain.proofs.Kept.{as_extracted}
use Rattle.fc_tree_retain.proofs.retain.extract_keys_if.Goals as goal

pub returns-clause-extracted : goal.returns-clause-extracted
returns-clause-extracted g c = (
  (c.filter_tree.new.filter.pick, c.filter_tree.new.filter.each),
  as_extracted _ _ (AskedAtKey g.F.FnMut) (GivenKey g.E.FnMut) (λ s. s.pick) (λ s. s.each)
      (λ s t e w b a. a) (λ s t e q. q) _ _ _ _ c.filter_tree.ensures.filtered,
)
