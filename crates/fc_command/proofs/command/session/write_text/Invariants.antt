use Rattle.std.proofs.Common.{◌≡◌, ℕ, List, ◌++◌, length}
use Rattle.std.specs.Io.KnownBytes.{Appends}
use Rattle.fc_command.proofs.command.session.write_text.Given as goal

-- what was written so far, and what is left
abbrev pub invariant-loop-rest : goal.invariant-loop-rest
invariant-loop-rest g l = (more : List ℕ) × Appends (g.W.Write.contents l.fn.out) (g.W.Write.contents l.out) more × (l.fn.text ≡ more ++ l.rest)

abbrev pub decreases-loop-rest : goal.decreases-loop-rest
decreases-loop-rest g l = length l.rest
