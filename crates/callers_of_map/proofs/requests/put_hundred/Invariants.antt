use Rattle.std.proofs.Common.{ℕ, ◌<◌, IsSome}
use Rattle.std.specs.Ordering.{nat_cmp}
use Rattle.fc_base.specs.Parts.{at}
use Rattle.fc_map.specs.Entries.{entries}
use Rattle.callers_of_map.proofs.requests.put_hundred.Given as goal

-- the numbers so far are there
abbrev pub invariant-loop-number : goal.invariant-loop-number
invariant-loop-number l = record {
  there : (number : ℕ) → number < l.number → IsSome (at nat_cmp (entries l.map) number);
}
