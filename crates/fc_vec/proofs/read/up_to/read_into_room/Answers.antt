use Rattle.std.proofs.Common.{◌≤◌, length, ◌++◌, ◌∙◌, arith, ap, drop, take, append_assoc}
use Rattle.std.proofs.lemmas.List.{take-append-le, length-append, length-take}
use Rattle.std.proofs.KnownBytes.{Consumes-trans}
use Rattle.fc_vec.proofs.read.up_to.read_into_room.Goals as goal

pub loop-left-smaller : goal.loop-left-smaller
loop-left-smaller g c =
    let most = length-take c.min-most.result c.loop-left.piece in
    omega (arith, most, c.read.auto.buf, c.min-most.ensures, c.in_ok-n.ensures.bound.0, c.if-n-eq0.false, c.loop-left-test.true)

pub loop-left-preserved : goal.loop-left-preserved
loop-left-preserved g c =
    let m = c.loop-left.invariant.read in
    let n = c.in_ok-n.n in
    let bound = c.in_ok-n.ensures.bound in
    let bytes = take n c.read.new.buf in
    let most = length-take c.min-most.result c.loop-left.piece in
    let within : n ≤ c.loop-left.left = omega (arith, most, c.read.auto.buf, c.min-most.ensures, bound.0) in
    let seam = take-append-le n c.read.new.buf (drop c.min-most.result c.loop-left.piece) bound.0 in
    let put = c.in_ok-write.ensures.written ∙ ap (λ l. c.loop-left.buf.items ++ l) seam in
    let more = length-append m.0 bytes in
    let grown = ap length put ∙ length-append c.loop-left.buf.items bytes in
    record {
      read = (
        m.0 ++ bytes,
        omega (arith, more, m.1, bound.1, within),
        put ∙ ap (λ l. l ++ bytes) m.2
            ∙ append_assoc c.args.buf.now.items m.0 bytes,
        Consumes-trans _ _ _ m.0 bytes m.3 c.in_ok-n.ensures.bytes.0,
      );
      room = omega (arith, grown, bound.1, within, c.loop-left.invariant.room, c.in_ok-write.ensures.kept);
      kept = omega (arith, c.loop-left.invariant.kept, c.in_ok-write.ensures.kept);
    }
