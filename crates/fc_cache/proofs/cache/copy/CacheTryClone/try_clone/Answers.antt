use Rattle.std.proofs.Common.{sym, ◌∙◌}
use Rattle.fc_cache.proofs.Copied.{copies_cost}
use Rattle.fc_cache.proofs.cache.copy.CacheTryClone.try_clone.Goals as goal

pub invariant_of-result : goal.invariant_of-result
invariant_of-result g c = (
  c.self.invariant.0 ∙ sym (copies_cost g.K.TryClone.same g.V.TryClone.same _ _ c.in_ok-recency.ensures.copied),
  c.self.invariant.1,
)
