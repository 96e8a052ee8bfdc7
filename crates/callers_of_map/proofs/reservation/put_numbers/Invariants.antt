use Rattle.std.proofs.Common.{◌≡◌, ◌+◌, ◌≤◌, length}
use Rattle.fc_map.specs.Entries.{entries}
use Rattle.callers_of_map.proofs.reservation.put_numbers.Given as goal

-- no more places are used than numbers are put in, and each by a pair
abbrev pub invariant-loop-number : goal.invariant-loop-number
invariant-loop-number l = record {
  places : l.fn.reservation.places ≤ l.reservation.places + l.number;
  pairs : l.reservation.pairs ≡ l.fn.reservation.pairs;
  total : length (entries l.map) + l.reservation.places ≡ length (entries l.fn.map) + l.fn.reservation.places;
}
