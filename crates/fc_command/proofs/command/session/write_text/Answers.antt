use Rattle.std.proofs.Common.{◌++◌, take, drop, sym, ap, ◌∙◌, append_assoc, take-append-drop}
use Rattle.std.proofs.KnownBytes.{Appends-trans}
use Rattle.fc_command.proofs.command.session.write_text.Goals as goal

pub loop-rest-preserved : goal.loop-rest-preserved
loop-rest-preserved g c =
    let m = c.loop-rest.invariant in
    let front = take c.in-Ok.n c.loop-rest.rest.now in
    let left = drop c.in-Ok.n c.loop-rest.rest.now in (
      m.0 ++ front,
      Appends-trans _ _ _ m.0 front m.1 c.in-Ok.ensures.bytes,
      m.2 ∙ ap (λ l. m.0 ++ l) (sym (take-append-drop c.in-Ok.n c.loop-rest.rest.now)) ∙ sym (append_assoc m.0 front left)
          ∙ ap (λ l. (m.0 ++ front) ++ l) (sym c.split_at.ensures.back),
    )
