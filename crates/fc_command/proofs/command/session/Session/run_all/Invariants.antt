use Rattle.std.proofs.Common.{ℕ, List}
use Rattle.std.specs.Io.KnownBytes.{Appends, Consumes}
use Rattle.fc_command.specs.Session.{IsAfter, HasRoom}
use Rattle.fc_command.proofs.command.session.Session.run_all.Given as goal

-- what was read, and what was written for it
abbrev pub invariant-loop : goal.invariant-loop
invariant-loop g l = record {
  room : HasRoom l.self;
  ran : (seen said : List ℕ) × Consumes (g.R.Read.remaining l.fn.src) (g.R.Read.remaining l.src) seen
      × Appends (g.W.Write.contents l.fn.out) (g.W.Write.contents l.out) said × IsAfter l.self seen said;
}
