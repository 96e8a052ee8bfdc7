use Rattle.std.proofs.Common.{◌≡◌, ℕ, List, ◌++◌, length}
use Rattle.std.specs.Io.KnownBytes.{Appends}
use Rattle.fc_command.specs.Session.{IsAfter, HasRoom}
use Rattle.fc_command.proofs.command.session.Session.take.Given as goal

-- what was taken of the piece
abbrev pub invariant-loop-rest : goal.invariant-loop-rest
invariant-loop-rest g l = record {
  room : HasRoom l.self;
  taken : List ℕ;
  place : l.piece ≡ taken ++ l.rest;
  ran : (seen said : List ℕ) → IsAfter l.fn.self seen said → (more : List ℕ) × Appends (g.W.Write.contents l.fn.out) (g.W.Write.contents l.out) more
      × IsAfter l.self (seen ++ taken) (said ++ more);
}

abbrev pub decreases-loop-rest : goal.decreases-loop-rest
decreases-loop-rest g l = length l.rest
