use Rattle.std.proofs.Common.{◌≡◌, ◌+◌, ◌≤◌, ◌++◌, length}
use Rattle.std.specs.Vec.Iter.{into_iter_items}
use Rattle.fc_base.specs.Extended.{extended}
use Rattle.fc_map.specs.Entries.{entries}
use Rattle.fc_map.proofs.map.BTreeMap.insert_each.Given as goal

-- the items so far are put in, and each of the others has a place
abbrev pub invariant-loop-key : goal.invariant-loop-key
invariant-loop-key g l = record {
  all : l.fn.items.items ≡ l.yielded ++ into_iter_items l.key-iterator;
  made : entries l.self ≡ extended g.K.Ord.cmp (entries l.fn.self) l.yielded;
  pairs : l.reservation.pairs ≡ length (entries l.fn.self) + length l.fn.items.items;
  total : length (entries l.self) + l.reservation.places ≡ length (entries l.fn.self) + length l.fn.items.items;
  places : length (into_iter_items l.key-iterator) ≤ l.reservation.places;
}
