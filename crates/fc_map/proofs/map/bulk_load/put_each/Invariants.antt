use Rattle.std.proofs.Common.{◌≡◌, [], ◌++◌}
use Rattle.std.specs.Vec.Iter.{into_iter_items}
use Rattle.fc_base.specs.Extended.{extended}
use Rattle.fc_map.proofs.map.bulk_load.put_each.Given as goal

-- the items so far are put in, and of no item nothing is asked for
abbrev pub invariant-loop-key : goal.invariant-loop-key
invariant-loop-key g l = record {
  all : l.fn.items.items ≡ l.yielded ++ into_iter_items l.key-iterator;
  made : l.placed.pairs ≡ extended g.K.Ord.cmp l.fn.placed.pairs l.yielded;
  none : l.fn.items.items ≡ [] → l.asked.requests ≡ l.fn.asked.requests;
}
