use Rattle.std.proofs.Common.{◌++◌, arith}
use Rattle.std.proofs.lemmas.List.{length-append}
use Rattle.std.proofs.KnownBytes.{Consumes-trans}
use Rattle.example_media.proofs.parser.Parser.next.Goals as goal

pub returns-in_err-fate-in-Some-clause-within : goal.returns-in_err-fate-in-Some-clause-within
returns-in_err-fate-in-Some-clause-within g c =
    let front = c.in_ok-try_read_up_to.ensures.moved in
    let rest = c.in_err-fate-in-Some.ensures.within in (
      front.0 ++ rest.0,
      omega (arith, length-append front.0 rest.0, front.1, rest.1, c.self.view_is, c.close.ensures.same, c.if-self-lt-FRONT.false),
      Consumes-trans _ _ _ front.0 rest.0 front.3 rest.2,
    )

pub returns-then-matches-clause-within : goal.returns-then-matches-clause-within
returns-then-matches-clause-within g c =
    let front = c.in_ok-try_read_up_to.ensures.moved in
    let rest = c.in_ok-fate-in-Some.ensures.within in (
      front.0 ++ rest.0,
      omega (
        arith,
        length-append front.0 rest.0,
        front.1,
        rest.1,
        c.self.view_is,
        c.close.ensures.same,
        c.end.ensures,
        c.if-self-lt-FRONT.false,
      ),
      Consumes-trans _ _ _ front.0 rest.0 front.3 rest.2,
    )

pub returns-else-matches-clause-within : goal.returns-else-matches-clause-within
returns-else-matches-clause-within g c =
    let front = c.in_ok-try_read_up_to.ensures.moved in
    let rest = c.in_ok-fate-in-Some.ensures.within in (
      front.0 ++ rest.0,
      omega (arith, length-append front.0 rest.0, front.1, rest.1, c.self.view_is, c.close.ensures.same, c.if-self-lt-FRONT.false),
      Consumes-trans _ _ _ front.0 rest.0 front.3 rest.2,
    )
