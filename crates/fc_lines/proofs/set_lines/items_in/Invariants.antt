use Rattle.std.proofs.Common.{length}
use Rattle.fc_lines.specs.Lines.{words_left}
use Rattle.fc_lines.specs.Grammar.{number_of}
use Rattle.fc_lines.proofs.ReadFacts.{Reads}
use Rattle.fc_lines.proofs.set_lines.items_in.Given as goal

abbrev pub invariant-loop-words : goal.invariant-loop-words
invariant-loop-words l = Reads number_of (words_left l.fn.words) l.list.items (words_left l.words)

abbrev pub decreases-loop-words : goal.decreases-loop-words
decreases-loop-words l = length (words_left l.words)
