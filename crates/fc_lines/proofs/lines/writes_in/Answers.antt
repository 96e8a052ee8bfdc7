use Rattle.std.proofs.Common.{rules, ◌≡◌, [], arith}
use Rattle.std.proofs.lemmas.Bool.Decides.{nat_tests}
use Rattle.std.proofs.lemmas.List.{nil_from_length}
use Rattle.fc_lines.specs.Lines.{words_left}
use Rattle.fc_lines.specs.Grammar.{one_write_of}
use Rattle.fc_lines.proofs.ReadFacts.{reads_nothing}
use Rattle.fc_lines.proofs.lines.writes_in.Goals as goal

pub returns-then-is_empty : goal.returns-then-is_empty
returns-then-is_empty c =
    let nil : c.loop-words.list.items ≡ [] = nil_from_length _ (grind (arith, nat_tests, c.loop-words.list.ok.0)) in
    let over : words_left c.loop-words.words ≡ [] = search rules in
    reads_nothing one_write_of (words_left c.args.words) (rw (nil, over) at c.loop-words.invariant)
