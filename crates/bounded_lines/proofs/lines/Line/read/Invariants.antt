use Rattle.std.proofs.Common.{◌≡◌, ◌≢◌, ℕ, List, All}
use Rattle.std.specs.Io.KnownBytes.{Consumes}
use Rattle.bounded_lines.specs.Reading.{held}
use Rattle.bounded_lines.proofs.lines.Line.read.Given as goal

-- the bytes of the line so far
abbrev pub invariant-loop : goal.invariant-loop
invariant-loop g l = record {
  line : List ℕ;
  has_no_feed : All (λ byte. byte ≢ 10) line;
  taken : Consumes l.fn.source l.source line;
  held : l.self ≡ held g.row.N line;
}
