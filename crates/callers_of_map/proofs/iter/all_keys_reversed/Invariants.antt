use Rattle.std.proofs.Common.{◌≡◌, ◌++◌, reverse}
use Rattle.fc_map.specs.Entries.{entries}
use Rattle.fc_map.specs.Walks.{keys_of}
use Rattle.callers_of_map.proofs.iter.all_keys_reversed.Given as goal

abbrev pub invariant-loop-key : goal.invariant-loop-key
invariant-loop-key g l = l.all.items ++ reverse l.key-iterator.iter ≡ reverse (keys_of (entries l.fn.map))
