use Rattle.std.proofs.Common.{ap, ◌∙◌, option_map, nat_eq}
use Rattle.std.specs.Cmp.{nat_eq_equiv}
use Rattle.std.specs.Map.{lookup}
use Rattle.fc_cache.proofs.Laws.{found_put}
use Rattle.callers_of_uses.proofs.cache.put_then_peek.Goals as goal

pub returns-in-Ok-clause-there : goal.returns-in-Ok-clause-there
returns-in-Ok-clause-there c =
    let found = found_put nat_eq_equiv c.args.cache.now c.in-Ok.ensures.cached c.args.key (record { value = c.args.value; cost = c.args.cost }) in
    c.copied.ensures ∙ c.peek.ensures.value ∙ ap (λ m. option_map (λ h. h.value) (lookup (nat_eq c.args.key) m.entries)) c.in-Ok.ensures.put
    ∙ ap (option_map (λ h. h.value)) found
