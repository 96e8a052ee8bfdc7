use Rattle.std.proofs.Common.{◌≡◌, ℕ, ◌<◌, IsSome}
use Rattle.std.specs.Ordering.{nat_cmp}
use Rattle.fc_base.specs.Parts.{at}
use Rattle.fc_map.specs.Entries.{entries}
use Rattle.callers_of_map.proofs.requests.write_hundred.Given as goal

-- each number is there still, and no request was made
abbrev pub invariant-loop-number : goal.invariant-loop-number
invariant-loop-number l = record {
  there : (number : ℕ) → number < 100 → IsSome (at nat_cmp (entries l.map) number);
  none : l.asked.requests ≡ l.fn.asked.requests;
}
