use Rattle.std.proofs.Common.{◌≡◌, ◌∙◌, Some, ap, sym, arith}
use Rattle.std.specs.List.{sum_by}
use Rattle.fallible_collections.specs.Words.{entries, value_at}
use Rattle.fallible_collections.proofs.Laws.{sum_values_cut, sum_values_cut_absent}
use Rattle.callers_in_pages.proofs.totals.drop_amount.Goals as goal

pub overflow_sub-result : goal.overflow_sub-result
overflow_sub-result g c =
    let told = c.requires in
    let there = sym c.remove.ensures.value ∙ c.in-Some.is in
    let law = sum_values_cut g.K.Ord.cmp (λ x. x) (entries c.args.amounts.now) c.args.key.now g.met.K.Ord.total c.len-len.ensures.ascending c.in-Some.old
    there in
    omega (arith, told, law)

pub returns-in-Some : goal.returns-in-Some
returns-in-Some g c =
    let told = c.requires in
    let there = sym c.remove.ensures.value ∙ c.in-Some.is in
    let law = sum_values_cut g.K.Ord.cmp (λ x. x) (entries c.args.amounts.now) c.args.key.now g.met.K.Ord.total c.len-len.ensures.ascending c.in-Some.old
    there in
    let new = ap (sum_by (λ e. e.1)) c.remove.ensures.rest in
    omega (arith, told, law, new)

pub returns-in-None : goal.returns-in-None
returns-in-None g c =
    let none = sym c.remove.ensures.value ∙ c.in-None.is in
    c.requires ∙ sym (ap (sum_by (λ e. e.1)) c.remove.ensures.rest ∙ sum_values_cut_absent g.K.Ord.cmp (λ x. x) (entries c.args.amounts.now) c.args.key.now
    g.met.K.Ord.total c.len-len.ensures.ascending none)
