use Rattle.std.proofs.Common.{◌≡◌, ◌∙◌, Some, ap, sym, arith}
use Rattle.std.specs.List.{sum_by}
use Rattle.fallible_collections.specs.Words.{entries, value_at}
use Rattle.fallible_collections.proofs.Laws.{sum_values_put, sum_values_put_new}
use Rattle.callers_in_pages.proofs.totals.set_amount.Goals as goal

pub overflow_sub-result : goal.overflow_sub-result
overflow_sub-result g c =
    let told = c.requires.told in
    let there = sym c.in_ok-old.ensures.old ∙ c.in-Some.is in
    let law = sum_values_put g.K.Ord.cmp (λ x. x) (entries c.args.amounts.now) c.args.key g.met.K.Ord.total c.len-len.ensures.ascending c.in-Some.old
    c.args.amount there in
    omega (arith, told, law)

pub returns-in-Some-clause-total : goal.returns-in-Some-clause-total
returns-in-Some-clause-total g c =
    let told = c.requires.told in
    let there = sym c.in_ok-old.ensures.old ∙ c.in-Some.is in
    let law = sum_values_put g.K.Ord.cmp (λ x. x) (entries c.args.amounts.now) c.args.key g.met.K.Ord.total c.len-len.ensures.ascending c.in-Some.old
    c.args.amount there in
    let new = ap (sum_by (λ e. e.1)) c.in_ok-old.ensures.put in
    omega (arith, told, law, new)

pub returns-in-None-clause-total : goal.returns-in-None-clause-total
returns-in-None-clause-total g c =
    let told = c.requires.told in
    let none = sym c.in_ok-old.ensures.old ∙ c.in-None.is in
    let law = sum_values_put_new g.K.Ord.cmp (λ x. x) (entries c.args.amounts.now) c.args.key g.met.K.Ord.total c.len-len.ensures.ascending c.args.amount
    none in
    let new = ap (sum_by (λ e. e.1)) c.in_ok-old.ensures.put in
    omega (arith, told, law, new)
