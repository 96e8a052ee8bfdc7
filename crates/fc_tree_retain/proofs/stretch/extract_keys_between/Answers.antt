use Rattle.fc_tree_retain.specs.Retained.{AskedAtKey, GivenKey}
use Rattle.fc_tree_retain.proofs.Kept.{as_extracted}
use Rattle.fc_tree_retain.proofs.stretch.extract_keys_between.Goals as goal

pub returns-clause-extracted : goal.returns-clause-extracted
returns-clause-extracted g c =
    let e = c.filter_tree_range.ensures.filtered in (
      (e.0.pick, e.0.each),
      e.1,
      as_extracted _ _ (AskedAtKey g.F.FnMut) (GivenKey g.E.FnMut) (λ s. s.pick) (λ s. s.each)
          (λ s t e w b a. a) (λ s t e q. q) _ _ _ _ e.2,
      e.3,
    )
