use Rattle.std.proofs.Common.{sym, ap, ◌∙◌, option_map, nat_eq}
use Rattle.std.specs.Cmp.{nat_eq_equiv}
use Rattle.std.specs.Map.{lookup}
use Rattle.fc_cache.proofs.Laws.{found_used}
use Rattle.callers_of_uses.proofs.cache.get_then_peek.Goals as goal

pub returns : goal.returns
returns c =
    let found = found_used (nat_eq c.args.key) (nat_eq_equiv.congr c.args.key) c.args.cache.now c.get.ensures.cached in
    c.copied.ensures ∙ c.peek.ensures.value ∙ ap (λ m. option_map (λ h. h.value) (lookup (nat_eq c.args.key) m.entries)) c.get.follows.holds-at-none
    ∙ ap (option_map (λ h. h.value)) found ∙ sym c.get.ensures.value ∙ sym c.copied-first.ensures
