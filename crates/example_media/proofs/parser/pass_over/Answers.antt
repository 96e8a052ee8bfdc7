use Rattle.std.proofs.Common.{◌++◌, ◌∙◌, length, ap, arith}
use Rattle.std.proofs.lemmas.List.{length-append}
use Rattle.std.proofs.KnownBytes.{Consumes-trans}
use Rattle.example_media.proofs.parser.pass_over.Goals as goal

pub returns-in_err-n : goal.returns-in_err-n
returns-in_err-n g c =
    let m = c.loop-left.invariant in
    let t = c.in_err-n.ensures.moved in
    (m.0 ++ t.0, omega (arith, length-append m.0 t.0, m.1, t.1, c.min.ensures), Consumes-trans _ _ _ m.0 t.0 m.2 t.3)

pub loop-left-preserved : goal.loop-left-preserved
loop-left-preserved g c =
    let m = c.loop-left.invariant in
    let t = c.in_ok-n.ensures.moved in
    let whole = c.in_ok-n.ensures.whole in
    let grown = ap length t.2 ∙ length-append c.clear.new.self.items t.0 in
    (m.0 ++ t.0, omega (arith, length-append m.0 t.0, m.1, t.1, c.min.ensures, grown, whole.0), Consumes-trans _ _ _ m.0 t.0 m.2 t.3)
