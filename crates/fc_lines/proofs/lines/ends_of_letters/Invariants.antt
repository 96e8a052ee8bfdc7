use Rattle.std.proofs.Common.{drop}
use Rattle.fc_lines.specs.Grammar.{end_of}
use Rattle.fc_lines.proofs.ReadFacts.{Reads}
use Rattle.fc_lines.proofs.lines.ends_of_letters.Given as goal

abbrev pub invariant-loop-letter : goal.invariant-loop-letter
invariant-loop-letter l = Reads end_of l.letters l.list.items (drop l.letter-index l.letters)
