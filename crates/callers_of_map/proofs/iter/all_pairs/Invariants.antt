use Rattle.std.proofs.Common.{◌≡◌, ◌++◌}
use Rattle.fc_map.specs.Entries.{entries}
use Rattle.callers_of_map.proofs.iter.all_pairs.Given as goal

abbrev pub invariant-loop-key : goal.invariant-loop-key
invariant-loop-key g l = l.all.items ++ l.key-iterator ≡ entries l.fn.map
