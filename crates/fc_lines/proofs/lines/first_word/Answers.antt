use Rattle.std.proofs.Common.{◌+◌, ◌-◌, length, take, drop, sym, ap, ◌∙◌, ◌∷◌, arith, take_all, length-drop}
use Rattle.fc_lines.specs.Lines.{words_of}
use Rattle.fc_lines.proofs.LineFacts.{words_found, words_whole}
use Rattle.fc_lines.proofs.lines.first_word.Goals as goal

pub returns-in-Some : goal.returns-in-Some
returns-in-Some c =
    let line = c.args.line.now in
    let at = c.in-Some.end in
    words_found line at (sym c.in-Some.ensures) ∙ ap (λ l. take at line ∷ words_of l)
    (sym (take_all (length line - (at + 1)) (drop (at + 1) line) (omega (arith, length-drop (at + 1) line))))

pub returns-in-None : goal.returns-in-None
returns-in-None c = words_whole c.args.line.now (sym c.in-None.ensures)
