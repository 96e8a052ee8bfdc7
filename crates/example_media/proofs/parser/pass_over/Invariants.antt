use Rattle.std.proofs.Common.{◌≡◌, ◌+◌, length, List, ℕ}
use Rattle.std.specs.Io.KnownBytes.{Consumes}
use Rattle.example_media.proofs.parser.pass_over.Given as goal

-- What was passed over so far.
abbrev pub invariant-loop-left : goal.invariant-loop-left
invariant-loop-left g l = (bytes : List ℕ) × (length bytes + l.left ≡ l.count) × Consumes (g.R.Read.remaining l.initial.src) (g.R.Read.remaining l.src) bytes

abbrev pub decreases-loop-left : goal.decreases-loop-left
decreases-loop-left g l = l.left
