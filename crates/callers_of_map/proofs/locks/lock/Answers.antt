use Rattle.std.proofs.Common.{◌≡◌, ◌<◌, Some, inl, inr, subst, arith}
use Rattle.std.specs.Ordering.{nat_cmp}
use Rattle.fc_laws.specs.Words.{entries, value_at}
use Rattle.fc_laws.proofs.Laws.{value_before_put, number_equal, number_total}
use Rattle.callers_of_map.proofs.locks.lock.Goals as goal

-- A lock that stands in the table is the new one, or stood there before.
pub returns-clause-ranges : goal.returns-clause-ranges
returns-clause-ranges c j w there =
    let from = c.args.from in
    let put_there = subst (λ s. value_at nat_cmp s j ≡ Some w) c.in_ok-try_insert.ensures.put there in
    elim (value_before_put nat_cmp (entries c.args.locks.now) from c.args.end j w number_total put_there) as (λ _. j < w) [
      | inl here ↦ let same : j ≡ from = (number_equal j from).0 here.0 in omega (arith, same, here.1, c.requires.range)
      | inr before ↦ c.requires.ranges j w before.1
    ]
