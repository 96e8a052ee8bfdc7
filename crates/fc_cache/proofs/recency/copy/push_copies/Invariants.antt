use Rattle.std.proofs.Common.{◌≡◌, List, ◌++◌, reverse, length}
use Rattle.fc_cache.specs.declared.held.Held.{Held}
use Rattle.fc_cache.specs.Copied.{AreCopies}
use Rattle.fc_cache.proofs.recency.copy.push_copies.Given as goal

-- What was made are the copies of the entries that were walked over.
abbrev pub invariant-entries : goal.invariant-entries
invariant-entries g l =
    (done : List (g.row.K.Denot × Held g.row.V.Denot)) × (reverse l.initial.walk ≡ done ++ reverse l.walk)
    × AreCopies g.K.TryClone.same g.V.TryClone.same done l.made.entries

abbrev pub decreases-entries : goal.decreases-entries
decreases-entries g l = length l.walk
