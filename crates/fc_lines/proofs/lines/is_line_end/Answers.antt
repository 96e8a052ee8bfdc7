use Rattle.std.proofs.Common.{rules}
use Rattle.fc_lines.proofs.PairFacts.{some_words}
use Rattle.fc_lines.proofs.lines.is_line_end.Goals as goal

pub returns : goal.returns
returns c = search (rules, some_words)
