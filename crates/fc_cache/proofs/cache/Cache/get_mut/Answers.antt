use Rattle.std.proofs.Common.{refl, sym, ◌∙◌}
use Rattle.fc_cache.specs.Entries.{used_last}
use Rattle.fc_cache.proofs.Costs.{cost_used}
use Rattle.fc_cache.proofs.Written.{cost_written}
use Rattle.fc_cache.proofs.cache.Cache.get_mut.Goals as goal

pub invariant_of-self-lent : goal.invariant_of-self-lent
invariant_of-self-lent g c = λ _.
    let test = g.Q.Equivalent.equivalent c.args.key in
    let es = c.self.inside.recency.entries in
    (λ w. (c.self.invariant.0 ∙ sym (cost_written test w (used_last test es) ∙ cost_used test es), c.self.invariant.1), c.self.invariant)

pub returns : goal.returns
returns g c = rw (← c.self.view_is) (refl, record { writes_back = tt; value = c.get_mut.ensures.value })
