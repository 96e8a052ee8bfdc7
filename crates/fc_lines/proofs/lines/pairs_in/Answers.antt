use Rattle.std.proofs.Common.{rules, ◌≡◌, Some, None, ◌<◌, length, []}
use Rattle.fc_lines.specs.Lines.{words_left}
use Rattle.fc_lines.specs.Grammar.{pair_at}
use Rattle.fc_lines.proofs.PairFacts.{pairs_shorter, pairs_more, pairs_not, pairs_read, some_words}
use Rattle.fc_lines.proofs.lines.pairs_in.Goals as goal

pub returns-in_default : goal.returns-in_default
returns-in_default c =
    let e : pair_at (words_left c.loop-words.words) ≡ None = search rules in
    let some : 0 < length (words_left c.loop-words.words) = search (rules, some_words) in
    pairs_not (words_left c.args.words) (words_left c.loop-words.words) c.loop-words.list.items some e c.loop-words.invariant

pub loop-words-smaller : goal.loop-words-smaller
loop-words-smaller c =
    let e : pair_at (words_left c.loop-words.words) ≡ Some (c.in-Some.pair, words_left c.in-Some.rest) = search rules in
    pairs_shorter _ _ _ e

pub loop-words-preserved : goal.loop-words-preserved
loop-words-preserved c =
    let e : pair_at (words_left c.loop-words.words) ≡ Some (c.in-Some.pair, words_left c.in-Some.rest) = search rules in
    rw c.in_ok-push.ensures.items (pairs_more (words_left c.args.words) (words_left c.loop-words.words) (words_left c.in-Some.rest) c.loop-words.list.items
    c.in-Some.pair e c.loop-words.invariant)

pub returns : goal.returns
returns c =
    let over : words_left c.loop-words.words ≡ [] = search rules in
    let some : 0 < length (words_left c.args.words) = search (rules, some_words) in
    pairs_read (words_left c.args.words) c.loop-words.list.items some (rw over at c.loop-words.invariant)
