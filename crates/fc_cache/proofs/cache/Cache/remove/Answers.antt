use Rattle.std.proofs.Common.{sym, ap, ◌∙◌, option_map, arith}
use Rattle.lru.proofs.Pairs.{lookup-lookup_entry}
use Rattle.fc_cache.specs.Entries.{total_cost}
use Rattle.fc_cache.proofs.Costs.{held_of, cost_missed, cost_taken}
use Rattle.fc_cache.proofs.cache.Cache.remove.Goals as goal

pub invariant_of-self : goal.invariant_of-self
invariant_of-self g c =
    let es = c.self.inside.recency.entries in
    let test = g.Q.Equivalent.equivalent c.args.key in
    (c.self.invariant.0 ∙ sym (ap total_cost c.take.ensures.entries ∙ cost_missed test es (sym c.in_err-_key.ensures.taken)), c.self.invariant.1)

pub returns-in_err-_key-clause-value : goal.returns-in_err-_key-clause-value
returns-in_err-_key-clause-value g c =
    let es = c.self.inside.recency.entries in
    let test = g.Q.Equivalent.equivalent c.args.key in
    rw (c.from_residual.ensures, ← c.self.view_is)
    (sym (ap (option_map (λ h. h.value)) (sym (lookup-lookup_entry test es) ∙ ap (option_map held_of) (sym c.in_err-_key.ensures.taken))))

pub overflow_sub-self : goal.overflow_sub-self
overflow_sub-self g c =
    let costs = cost_taken (g.Q.Equivalent.equivalent c.args.key) c.self.inside.recency.entries (c.in_ok-_key._key, c.in_ok-_key.held)
    (sym c.in_ok-_key.ensures.taken) in
    omega (arith, c.self.invariant.0, costs)

pub invariant_of-self-2 : goal.invariant_of-self-2
invariant_of-self-2 g c =
    let costs = cost_taken (g.Q.Equivalent.equivalent c.args.key) c.self.inside.recency.entries (c.in_ok-_key._key, c.in_ok-_key.held)
    (sym c.in_ok-_key.ensures.taken) in
    let left = ap total_cost c.take.ensures.entries in
    (omega (arith, c.self.invariant.0, costs, left), omega (arith, c.self.invariant.1))

pub returns-clause-value : goal.returns-clause-value
returns-clause-value g c =
    let es = c.self.inside.recency.entries in
    let test = g.Q.Equivalent.equivalent c.args.key in
    rw (← c.self.view_is) (sym (ap (option_map (λ h. h.value)) (sym (lookup-lookup_entry test es) ∙ ap (option_map held_of) (sym c.in_ok-_key.ensures.taken))))
