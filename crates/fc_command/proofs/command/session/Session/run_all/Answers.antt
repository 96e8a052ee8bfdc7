use Rattle.std.proofs.Common.{◌≡◌, [], ◌++◌, ◌∙◌, arith, take, append-nil, ap, Ok}
use Rattle.std.proofs.KnownBytes.{Appends-trans, Appends-kept, Appends-nil, Consumes-trans, Consumes-kept, Consumes-nil}
use Rattle.std.proofs.lemmas.Result.{err_from_is_err_and}
use Rattle.fc_command.proofs.ServeFacts.{served_read, served_end, served_failed, served_fault}
use Rattle.fc_command.proofs.command.session.Session.run_all.Goals as goal

pub loop-init : goal.loop-init
loop-init g c = record {
  room = c.requires.room;
  ran = ([], [], Consumes-nil _, Appends-nil _, c.requires.new);
}

pub returns-in-Err : goal.returns-in-Err
returns-in-Err g c =
    let m = c.loop.invariant.ran in
    (m.1, m.3, served_read g.row.A.Denot _ _ m.0 m.1 c.loop.self (Consumes-kept _ _ _ m.0 m.2 c.in-Err.ensures.bytes) m.4)

pub returns-then-n-eq0 : goal.returns-then-n-eq0
returns-then-n-eq0 g c =
    let m = c.loop.invariant.ran in
    let f = c.finish.ensures m.0 m.1 m.4 in
    let bytes = c.in-Ok.ensures.bytes in
    let e : m.0 ++ take c.in-Ok.n c.read.new.buf ≡ m.0 = ap (λ k. m.0 ++ take k c.read.new.buf) c.if-n-eq0.true ∙ append-nil m.0 in
    let took = rw e at (Consumes-trans _ _ _ m.0 (take c.in-Ok.n c.read.new.buf) m.2 bytes.0) in
    let end = bytes.1 c.if-n-eq0.true (omega arith) in
    (m.1 ++ f.0, Appends-trans _ _ _ m.1 f.0 m.3 f.1, served_end g.row.A.Denot _ _ m.0 (m.1 ++ f.0) c.finish.result took end f.2)

pub returns-in_err-n : goal.returns-in_err-n
returns-in_err-n g c =
    let m = c.loop.invariant.ran in
    let f = c.in_err-n.ensures.ran m.0 m.1 m.4 in
    let p = err_from_is_err_and c.from_residual.result c.from_residual.ensures.1 in (
      m.1 ++ f.0,
      Appends-trans _ _ _ m.1 f.0 m.3 f.1,
      rw (p.1, p.2) (served_failed g.row.A.Denot _ _ _ (m.1 ++ f.0) c.in_err-n.field-0.0
          (Consumes-trans _ _ _ m.0 _ m.2 c.in-Ok.ensures.bytes.0) f.2),
    )

pub returns-in-Some : goal.returns-in-Some
returns-in-Some g c =
    let m = c.loop.invariant.ran in
    let f = rw c.in-Some.is at (c.in_ok-n.ensures.ran m.0 m.1 m.4) in (
      m.1 ++ f.0,
      Appends-kept _ _ _ (m.1 ++ f.0) (Appends-trans _ _ _ m.1 f.0 m.3 f.1) c.flushed.ensures.0,
      served_fault g.row.A.Denot _ _ _ (m.1 ++ f.0) c.in-Some.n c.flushed.result
          (Consumes-trans _ _ _ m.0 _ m.2 c.in-Ok.ensures.bytes.0) f.2 c.flushed.ensures.1,
    )

pub loop-preserved : goal.loop-preserved
loop-preserved g c =
    let m = c.loop.invariant.ran in
    let f = rw c.in-None.is at (c.in_ok-n.ensures.ran m.0 m.1 m.4) in
    record {
      room = c.in_ok-n.ensures.room (ap Ok c.in-None.is);
      ran = (
        m.0 ++ take c.in-Ok.n c.read.new.buf,
        m.1 ++ f.0,
        Consumes-trans _ _ _ m.0 _ m.2 c.in-Ok.ensures.bytes.0,
        Appends-trans _ _ _ m.1 f.0 m.3 f.1,
        f.2,
      );
    }

pub returns : goal.returns
returns g c =
    let m = c.loop.invariant.ran in
    (m.1, m.3, served_read g.row.A.Denot _ _ m.0 m.1 c.loop.self m.2 m.4)
