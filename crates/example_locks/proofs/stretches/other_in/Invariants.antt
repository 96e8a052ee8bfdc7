use Rattle.std.proofs.Common.{◌≤◌}
use Rattle.fallible_collections.specs.Words.{entries}
use Rattle.example_locks.proofs.Lasts.{IsOwn}
use Rattle.example_locks.proofs.stretches.other_in.Given as goal

abbrev pub invariant-walk : goal.invariant-walk
invariant-walk l = (l.below ≤ l.end) × IsOwn (entries l.held) l.below l.end l.owner

abbrev pub decreases-walk : goal.decreases-walk
decreases-walk l = l.below
