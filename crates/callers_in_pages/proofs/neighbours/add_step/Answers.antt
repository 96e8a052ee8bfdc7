use Rattle.std.proofs.Common.{ℕ, List, ap, ◌∙◌}
use Rattle.std.specs.Option.{option_map}
use Rattle.std.specs.Ordering.{nat_cmp}
use Rattle.std.proofs.lemmas.Cmp.{nat_cmp_total}
use Rattle.fallible_collections.specs.Words.{entries, last_item, not_above}
use Rattle.fallible_collections.proofs.Laws.{last_put}
use Rattle.callers_in_pages.proofs.neighbours.add_step.Goals as goal

pub returns-clause-there : goal.returns-clause-there
returns-clause-there c =
    c.rate_at.ensures
    ∙ ap (λ (s : List (ℕ × ℕ)). option_map (λ e. e.1) (last_item (not_above nat_cmp s c.args.from))) c.in_ok-try_insert.ensures.put
    ∙ ap (option_map (λ e. e.1)) (last_put nat_cmp (entries c.args.steps.now) c.args.from c.args.rate nat_cmp_total)
