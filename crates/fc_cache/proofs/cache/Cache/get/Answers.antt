use Rattle.std.proofs.Common.{sym, ap, ◌∙◌}
use Rattle.fc_cache.specs.Entries.{total_cost}
use Rattle.fc_cache.proofs.Costs.{cost_used}
use Rattle.fc_cache.proofs.cache.Cache.get.Goals as goal

pub invariant_of-self : goal.invariant_of-self
invariant_of-self g c =
    let same = cost_used (g.Q.Equivalent.equivalent c.args.key) c.self.inside.recency.entries in
    (c.self.invariant.0 ∙ sym (ap (λ r. total_cost r.entries) c.get.follows.holds-at-none ∙ same), c.self.invariant.1)

pub invariant_of-self-2 : goal.invariant_of-self-2
invariant_of-self-2 g c =
    let same = cost_used (g.Q.Equivalent.equivalent c.args.key) c.self.inside.recency.entries in
    (c.self.invariant.0 ∙ sym (ap (λ r. total_cost r.entries) c.get.follows.holds-at-none ∙ same), c.self.invariant.1)
