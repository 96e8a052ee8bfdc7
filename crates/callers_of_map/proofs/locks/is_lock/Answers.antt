use Rattle.std.proofs.Common.{◌≡◌, ℕ, Option, Some, None, sym, ap, ◌∙◌, arith}
use Rattle.std.specs.Prelude.{unwrap_or}
use Rattle.std.specs.Option.{option_map}
use Rattle.std.specs.Ordering.{nat_cmp}
use Rattle.std.proofs.lemmas.Bool.Decides.{nat_tests}
use Rattle.std.proofs.lemmas.Map.Lookups.{exact_unsigned}
use Rattle.fc_laws.specs.Words.{entries, at}
use Rattle.fc_laws.proofs.Laws.{exact_pair, contains_at, at_contained, number_total}
use Rattle.callers_of_map.proofs.locks.is_lock.Goals as goal

pub returns-in-Some : goal.returns-in-Some
returns-in-Some c =
    let s = entries c.args.locks.now in
    let from = c.args.from in
    let held = c.in-Some.held.now in
    let there : at nat_cmp s from ≡ Some (from, held) = exact_pair nat_cmp s from held exact_unsigned (sym c.in-Some.ensures.value) in (
      λ same. let is : held ≡ c.args.end = grind (arith, nat_tests, same) in
          contains_at nat_cmp s from from c.args.end (there ∙ (λ i. Some (from, is i))),
      λ listed.
          let one : Some (from, held) ≡ Some (from, c.args.end) = sym there
          ∙ at_contained nat_cmp s from c.args.end number_total c.get.ensures.ascending listed in
          let is : held ≡ c.args.end = ap (λ (o : Option (ℕ × ℕ)). unwrap_or (option_map (λ e. e.1) o) 0) one in
          grind (arith, nat_tests, is),
    )

pub returns-in-None : goal.returns-in-None
returns-in-None c = (
  λ no. absurd cc,
  λ listed. absurd (
      let there = at_contained nat_cmp (entries c.args.locks.now) c.args.from c.args.end number_total c.get.ensures.ascending listed in
      let no : None ≡ Some c.args.end = c.in-None.ensures.value ∙ ap (option_map (λ e. e.1)) there in
      cc
      ),
)
