use Rattle.std.proofs.Common.{◌≡◌, ◌+◌, ◌≤◌, ◌++◌, length}
use Rattle.std.specs.Prelude.{vec_len, vec_capacity}
use Rattle.std.specs.Vec.Iter.{into_iter_items}
use Rattle.fc_set.proofs.ItemFacts.{keys}
use Rattle.fc_set.proofs.set.extend.take_keys.Given as goal

-- the keys so far are in the list, which has room for the rest
abbrev pub invariant-loop-item : goal.invariant-loop-item
invariant-loop-item g l = record {
  all : l.fn.pairs.items ≡ l.yielded ++ into_iter_items l.item-iterator;
  taken : l.items.items ≡ keys l.yielded;
  room : vec_len l.items + length (into_iter_items l.item-iterator) ≤ vec_capacity l.items;
}
