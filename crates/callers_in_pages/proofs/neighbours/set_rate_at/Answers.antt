use Rattle.std.proofs.Common.{◌≡◌, ◌∙◌, ℕ, None, Some, sym, ap}
use Rattle.std.specs.Option.{option_map}
use Rattle.std.specs.Ordering.{nat_cmp, is_le}
use Rattle.std.proofs.lemmas.Cmp.{nat_cmp_total}
use Rattle.fallible_collections.specs.Words.{entries, value_at}
use Rattle.fallible_collections.proofs.Laws.{last_there}
use Rattle.callers_in_pages.proofs.neighbours.set_rate_at.Goals as goal

-- The pair that was found stands in the map, so its value is lent.
pub returns-in_default-get_mut : goal.returns-in_default-get_mut
returns-in_default-get_mut c =
    let step : ℕ × ℕ = (c.in-Some.from.now, c.in-Some._rate.now) in
    let there : value_at nat_cmp (entries c.args.steps.now) c.in-Some.from.now ≡ Some c.in-Some._rate.now =
    ap (option_map (λ e. e.1)) (last_there nat_cmp (λ k. is_le (nat_cmp k c.args.amount)) (entries c.args.steps.now) step nat_cmp_total
    c.in-Some.ensures.ascending (sym c.in-Some.ensures.pair)) in
    let none : None ≡ value_at nat_cmp (entries c.args.steps.now) c.in-Some.from.now = c.in_default-get_mut.ensures.value in
    absurd (let no = none ∙ there in cc)
