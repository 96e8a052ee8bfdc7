use Rattle.std.proofs.Common.{◌≡◌, ◌+◌, ◌≤◌, ◌++◌, reverse}
use Rattle.std.specs.Prelude.{vec_len, vec_capacity}
use Rattle.fc_set.proofs.ItemFacts.{keys}
use Rattle.fc_set.proofs.set.extend.pair_up.Given as goal

-- what left the list stands in the pairs, last first, which have room for the rest
abbrev pub invariant-loop-item : goal.invariant-loop-item
invariant-loop-item g l = record {
  all : l.fn.items.items ≡ l.items.items ++ keys (reverse l.pairs.items);
  room : vec_len l.items + vec_len l.pairs ≤ vec_capacity l.pairs;
  kept : vec_capacity l.items ≡ vec_capacity l.fn.items;
}

abbrev pub decreases-loop-item : goal.decreases-loop-item
decreases-loop-item g l = vec_len l.items
