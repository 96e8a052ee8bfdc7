use Rattle.std.proofs.Common.{◌≡◌, ◌+◌, ◌++◌, ◌≤◌, length}
use Rattle.std.specs.Vec.Iter.{into_iter_items}
use Rattle.fc_base.specs.Extended.{extended}
use Rattle.fc_map.specs.Entries.{entries}
use Rattle.callers_of_map.proofs.reservation.put_reserved.Given as goal

-- the pairs so far are put in, and there is a place for each of the others
abbrev pub invariant-loop-key : goal.invariant-loop-key
invariant-loop-key g l = record {
  all : l.fn.pairs.items ≡ l.yielded ++ into_iter_items l.key-iterator;
  made : entries l.map ≡ extended g.K.Ord.cmp (entries l.fn.map) l.yielded;
  places : length (into_iter_items l.key-iterator) ≤ l.reservation.places;
  total : length (entries l.map) + l.reservation.places ≤ l.reservation.pairs;
}
