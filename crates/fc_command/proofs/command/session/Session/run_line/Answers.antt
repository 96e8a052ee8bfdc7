use Rattle.std.proofs.Common.{◌≡◌, None, refl, sym, inl, inr, arith, ◌∙◌, ap, subst, ◌++◌, ◌∷◌, []}
use Rattle.std.proofs.KnownBytes.{Appends-nil}
use Rattle.fc_command.specs.Spoken.{SpokenTo}
use Rattle.std.proofs.lemmas.Result.{err_from_is_err_and}
use Rattle.fc_lines.specs.Grammar.{command_of}
use Rattle.fc_lines.specs.Texts.{text_of}
use Rattle.fc_command.proofs.ServeFacts.{line_refused, reply_failed}
use Rattle.fc_command.proofs.SpokenFacts.{spoken_more}
use Rattle.fc_command.proofs.ReplyFacts.{asks}
use Rattle.fc_command.proofs.command.session.Session.run_line.Goals as goal

pub returns-in_err-write_text-in-Ok-write_reply-clause-ran : goal.returns-in_err-write_text-in-Ok-write_reply-clause-ran
returns-in_err-write_text-in-Ok-write_reply-clause-ran g c front said s =
    let told : c.deref-in-Ok-write_reply.result.now ≡ text_of c.step-reply.result =
    c.deref-in-Ok-write_reply.ensures.value ∙ c.in-Ok-write_reply.ensures.written ∙ ap (λ l. l ++ text_of c.step-reply.result) c.clear.ensures.items in
    let w = c.in_err-write_text-in-Ok-write_reply.ensures in
    let p = err_from_is_err_and c.from_residual.result c.from_residual.ensures.1 in (
      w.0,
      w.1,
      rw (p.1, p.2) (reply_failed c.args.self.now (record c.args.self.now { world = c.step-reply.new.self; text = c.write_reply.new.text }) front
          said w.0 _ c.in-Some.command c.step-reply.result c.step-reply.new.self c.in_err-write_text-in-Ok-write_reply.field-0.0 s
          (rw (c.deref.ensures.value, c.in-Some.is) at (sym c.in-Ok.ensures.command)) c.step-reply.ensures told
          w.2),
    )

pub returns-in_ok-write_text-in-Ok-write_reply-clause-ran : goal.returns-in_ok-write_text-in-Ok-write_reply-clause-ran
returns-in_ok-write_text-in-Ok-write_reply-clause-ran g c front said s =
    let told : c.deref-in-Ok-write_reply.result.now ≡ text_of c.step-reply.result =
    c.deref-in-Ok-write_reply.ensures.value ∙ c.in-Ok-write_reply.ensures.written ∙ ap (λ l. l ++ text_of c.step-reply.result) c.clear.ensures.items in
    let w = c.in_ok-write_text-in-Ok-write_reply.ensures in (
      w.0,
      w.1,
      (
        subst (λ t. SpokenTo (front ++ c.args.self.now.line.items ∷ []) (said ++ t) c.step-reply.new.self) (sym (w.2 ∙ told))
            (spoken_more front said c.args.self.now.world c.step-reply.new.self c.args.self.now.line.items c.in-Some.command c.step-reply.result s
            (rw (c.deref.ensures.value, c.in-Some.is) at (sym c.in-Ok.ensures.command))
            c.step-reply.ensures),
        c.clear-in-Some.ensures.items,
        c.saturating_add-self.ensures,
        c.clear-in-Some.ensures.capacity,
      ),
    )

pub returns-in-None-clause-ran : goal.returns-in-None-clause-ran
returns-in-None-clause-ran g c front said s =
    let bad : command_of c.args.self.now.line.items ≡ None = rw (c.deref.ensures.value, c.in-None.is) at (sym c.in-Ok.ensures.command) in
    let w = c.refuse.ensures in
    (w.0, w.1, line_refused c.args.self.now (record c.args.self.now { text = c.refuse.new.text }) front said w.0 c.refuse.result bad w.2)

pub returns-in-Err-clause-ran : goal.returns-in-Err-clause-ran
returns-in-Err-clause-ran g c front said s = ([], Appends-nil _, (refl, refl, inl (rw c.deref.ensures.value at c.in-Err.ensures.list)))

pub returns-in-Err-write_reply-clause-ran : goal.returns-in-Err-write_reply-clause-ran
returns-in-Err-write_reply-clause-ran g c front said s =
    let listed = asks _ _ _ c.args.self.now.world c.in-Some.command c.step-reply.result c.step-reply.new.self c.step-reply.ensures
    (λ no_list. omega (arith, c.in-Err-write_reply.ensures.short no_list, c.clear.ensures.len, c.clear.ensures.capacity, c.requires.2)) in
    ([], Appends-nil _, (refl, refl, inr (rw (rw (c.deref.ensures.value, c.in-Some.is) at (sym c.in-Ok.ensures.command)) listed)))
