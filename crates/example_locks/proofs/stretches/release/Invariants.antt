use Rattle.std.proofs.Common.{◌≤◌, length, max}
use Rattle.fallible_collections.specs.Words.{entries}
use Rattle.example_locks.specs.Held.{IsReleased}
use Rattle.example_locks.proofs.stretches.release.Given as goal

abbrev pub invariant-walk : goal.invariant-walk
invariant-walk l = (l.below ≤ l.end) × IsReleased (entries l.initial.held) (entries l.held) (max l.start l.below) l.end l.owner
    × (length (entries l.held) ≤ length (entries l.initial.held))

abbrev pub decreases-walk : goal.decreases-walk
decreases-walk l = l.below
