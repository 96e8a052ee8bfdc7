use Rattle.std.proofs.Common.{[], ap, sym, ◌∙◌}
use Rattle.std.proofs.lemmas.List.{append-nil}
use Rattle.fc_cache.specs.Entries.{rest_within, total_cost}
use Rattle.fc_cache.proofs.cache.Cache.set_budget.Goals as goal

pub invariant_of-self : goal.invariant_of-self
invariant_of-self g c =
    let es = c.self.inside.recency.entries in
    let done = c.evict-self-inside.ensures.entries es [] (sym (append-nil es)) c.self.invariant.0 in
    let left = done.0 ∙ append-nil (rest_within c.args.budget es) in
    (done.1 ∙ ap total_cost (sym left), c.evict-self-inside.ensures.within)

pub returns : goal.returns
returns g c =
    let es = c.self.inside.recency.entries in
    let done = c.evict-self-inside.ensures.entries es [] (sym (append-nil es)) c.self.invariant.0 in
    let left = done.0 ∙ append-nil (rest_within c.args.budget es) in
    rw (← c.self.view_is) (λ i. record { entries = left i; budget = c.args.budget })
