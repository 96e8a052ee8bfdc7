use Rattle.std.proofs.Common.{sym}
use Rattle.fc_lines.proofs.LineFacts.{ends_words}
use Rattle.fc_lines.proofs.lines.at_line_end.Goals as goal

pub returns-in-Some : goal.returns-in-Some
returns-in-Some g c = rw c.in-Some.is (sym (ends_words c.args.read c.in-Some.field-0.now))
