use Rattle.std.proofs.Common.{◌≡◌, ◌<◌, length, [], ◌∷◌, ◌++◌, ◌∙◌, arith, sym, ap, subst, refl, Ok, append_assoc, append-nil, length-append}
use Rattle.std.proofs.KnownBytes.{Appends-trans}
use Rattle.std.proofs.lemmas.Bool.Decides.{nat_tests}
use Rattle.std.proofs.lemmas.List.{nil_from_length}
use Rattle.std.proofs.lemmas.Result.{err_from_is_err_and}
use Rattle.fc_command.specs.Session.{IsAfter}
use Rattle.fc_command.proofs.CutFacts.{Open, fed_first}
use Rattle.fc_command.proofs.ServeFacts.{piece_refused, piece_open, piece_failed, piece_fault, piece_on}
use Rattle.fc_command.proofs.command.session.Session.take.Goals as goal

pub returns-then-part-len-clause-ran : goal.returns-then-part-len-clause-ran
returns-then-part-len-clause-ran g c seen said s =
    let i = c.loop-rest.invariant in
    let m = i.ran seen said s in
    let w = c.refuse.ensures in
    let long : 4096 < length (c.loop-rest.self.line.items ++ c.split_at.result.0.now) =
    omega (arith, length-append c.loop-rest.self.line.items c.split_at.result.0.now, c.if-part-len.true, c.len.ensures, c.loop-rest.self.line.ok.0) in (
      m.0 ++ w.0,
      Appends-trans _ _ _ m.0 w.0 m.1 w.1,
      piece_refused seen said c.args.piece.now i.taken c.loop-rest.rest.now c.split_at.result.0.now
          c.split_at.result.1.now m.0 i.place c.split_at.ensures.by_index.0 c.loop-rest.self m.2 (rw c.split_at.ensures.front c.line_end.ensures.open) long _
          w.0 c.refuse.result w.2,
    )

pub returns-in_default-clause-ran : goal.returns-in_default-clause-ran
returns-in_default-clause-ran g c seen said s =
    let i = c.loop-rest.invariant in
    let m = i.ran seen said s in
    let none : c.split_at.result.1.now ≡ [] = nil_from_length _ c.in_default.ensures.cases in (
      m.0,
      m.1,
      piece_open seen said c.args.piece.now i.taken c.loop-rest.rest.now c.split_at.result.0.now c.split_at.result.1.now m.0 i.place
          c.split_at.ensures.by_index.0 c.loop-rest.self m.2 (rw c.split_at.ensures.front c.line_end.ensures.open) none _ refl refl
          (rw c.unwrap.ensures at c.extend_from_slice.ensures.items),
    )

pub returns-in_err-n-clause-ran : goal.returns-in_err-n-clause-ran
returns-in_err-n-clause-ran g c seen said s =
    let i = c.loop-rest.invariant in
    let m = i.ran seen said s in
    let w = c.in_err-n.ensures.ran m.2.front (said ++ m.0) m.2.spoken in
    let p = err_from_is_err_and c.from_residual.result c.from_residual.ensures.1 in (
      m.0 ++ w.0,
      Appends-trans _ _ _ m.0 w.0 m.1 w.1,
      rw (p.1, p.2) (piece_failed seen said c.args.piece.now i.taken c.loop-rest.rest.now
          c.split_at.result.0.now c.split_at.result.1.now m.0 i.place c.split_at.ensures.by_index.0 c.loop-rest.self m.2
          (rw c.split_at.ensures.front c.line_end.ensures.open) c.in-Some.after.now w.0
          (fed_first _ _ _ _ c.split_at.ensures.back c.in-Some.ensures.cases.0 c.line_end.ensures.feed)
          (record c.loop-rest.self { line = c.extend_from_slice.new.self })
          c.run_line.new.self refl refl (rw c.unwrap.ensures at c.extend_from_slice.ensures.items) c.in_err-n.field-0.0 w.2),
    )

pub returns-in-Some-2-clause-ran : goal.returns-in-Some-2-clause-ran
returns-in-Some-2-clause-ran g c seen said s =
    let i = c.loop-rest.invariant in
    let m = i.ran seen said s in
    let w = rw c.in-Some-2.is at (c.in_ok-n.ensures.ran m.2.front (said ++ m.0) m.2.spoken) in (
      m.0 ++ w.0,
      Appends-trans _ _ _ m.0 w.0 m.1 w.1,
      piece_fault seen said c.args.piece.now i.taken c.loop-rest.rest.now c.split_at.result.0.now
          c.split_at.result.1.now m.0 i.place c.split_at.ensures.by_index.0 c.loop-rest.self m.2 (rw c.split_at.ensures.front c.line_end.ensures.open)
          c.in-Some.after.now w.0 (fed_first _ _ _ _ c.split_at.ensures.back c.in-Some.ensures.cases.0 c.line_end.ensures.feed)
          (record c.loop-rest.self { line = c.extend_from_slice.new.self }) c.run_line.new.self refl refl
          (rw c.unwrap.ensures at c.extend_from_slice.ensures.items) c.in-Some-2.n w.2,
    )

pub loop-rest-preserved : goal.loop-rest-preserved
loop-rest-preserved g c =
    let i = c.loop-rest.invariant in
    let part = c.split_at.result.0.now in
    let open_part : Open part = rw c.split_at.ensures.front c.line_end.ensures.open in
    let feed = fed_first _ _ _ _ c.split_at.ensures.back c.in-Some.ensures.cases.0 c.line_end.ensures.feed in
    let line : c.extend_from_slice.new.self.items ≡ c.loop-rest.self.line.items ++ part = rw c.unwrap.ensures at c.extend_from_slice.ensures.items in
    let old = record c.loop-rest.self { line = c.extend_from_slice.new.self } in
    record {
      room = c.in_ok-n.ensures.room (ap Ok c.in-None.is);
      taken = i.taken ++ (part ++ 10 ∷ []);
      place = i.place ∙ ap (λ l. i.taken ++ l) (c.split_at.ensures.by_index.0 ∙ ap (λ l. part ++ l) feed
          ∙ sym (append_assoc part (10 ∷ []) c.in-Some.after.now)) ∙ sym (append_assoc i.taken (part ++ 10 ∷ []) c.in-Some.after.now);
      ran = λ seen said s.
          let m = i.ran seen said s in
          let w = rw c.in-None.is at (c.in_ok-n.ensures.ran m.2.front (said ++ m.0) m.2.spoken) in (
            m.0 ++ w.0,
            Appends-trans _ _ _ m.0 w.0 m.1 w.1,
            piece_on seen said c.args.piece.now i.taken c.loop-rest.rest.now part c.split_at.result.1.now m.0
                i.place c.split_at.ensures.by_index.0 c.loop-rest.self m.2 open_part c.in-Some.after.now w.0 feed old c.run_line.new.self refl refl line w.2,
          );
    }

pub returns-clause-ran : goal.returns-clause-ran
returns-clause-ran g c seen said s =
    let i = c.loop-rest.invariant in
    let m = i.ran seen said s in
    let none : c.loop-rest.rest.now ≡ [] = nil_from_length _ (grind (arith, nat_tests, c.is_empty.ensures, c.loop-rest-test.false)) in
    let all : i.taken ≡ c.args.piece.now = sym (i.place ∙ ap (λ l. i.taken ++ l) none ∙ append-nil i.taken) in
    (m.0, m.1, subst (λ l. IsAfter c.loop-rest.self (seen ++ l) (said ++ m.0)) all m.2)
