use Rattle.std.proofs.Common.{sym, subst, rules}
use Rattle.std.proofs.lemmas.Result.{err_from_is_err_and}
use Rattle.std.specs.Iterator.{IsFinite}
use Rattle.fc_set.specs.Copied.{Lends}
use Rattle.fc_command.proofs.CopyFacts.{refused_item, refused_room}
use Rattle.fc_command.proofs.OperationFacts.{copied_start, copied_more, copied_all, next_left}
use Rattle.fc_command.proofs.command.operations.copies_of.Goals as goal

pub loop-item-init : goal.loop-item-init
loop-item-init g c =
    let e = sym c.into_iter-item-iterator.ensures.into_iter_gives in (
      subst g.I.Iterator.can_next e c.requires.ends.0,
      subst (λ w. IsFinite (g.I.Iterator.remaining w)) e c.requires.ends.1,
      λ all lends. copied_start g.I.Iterator.next_gives all c.new-copies.result.items c.into_iter-item-iterator.result c.new-copies.ensures.items
          (subst (λ w. Lends g.I.Iterator.next_gives w all) e lends),
    )

pub loop-item-preserved : goal.loop-item-preserved
loop-item-preserved g c =
    let exact = c.requires.same c.in-Some.item.now c.in_ok-copy.copy c.in_ok-copy.ensures in (
      search rules,
      search rules,
      λ all lends. rw c.in_ok-push.ensures.items
          (copied_more g.I.Iterator.next_gives all c.loop-item.copies.items c.loop-item.item-iterator c.next.new.self c.in-Some.item c.in_ok-copy.copy
          (c.loop-item.invariant.2 all lends) c.in-Some.ensures.steps exact),
    )

-- an item came, and its copy or the room for it was refused
pub returns-in_err-copy-clause-error : goal.returns-in_err-copy-clause-error
returns-in_err-copy-clause-error g c = λ all lends.
    let p = err_from_is_err_and c.from_residual.result c.from_residual.ensures.1 in
    let at = next_left g.I.Iterator.next_gives all c.loop-item.copies.items c.loop-item.item-iterator c.next.new.self c.in-Some.item
    (c.loop-item.invariant.2 all lends) c.in-Some.ensures.steps in
    rw (p.1, p.2) (refused_item g.K.TryClone.may_refuse all at.0 at.1 c.in-Some.item.now c.in_err-copy.field-0.0 at.2 c.in_err-copy.ensures)

pub returns-in_err-push-clause-error : goal.returns-in_err-push-clause-error
returns-in_err-push-clause-error g c = λ all lends.
    let p = err_from_is_err_and c.from_residual-in_err-push.result c.from_residual-in_err-push.ensures.1 in
    let at = next_left g.I.Iterator.next_gives all c.loop-item.copies.items c.loop-item.item-iterator c.next.new.self c.in-Some.item
    (c.loop-item.invariant.2 all lends) c.in-Some.ensures.steps in
    rw (p.1, p.2) (refused_room g.K.TryClone.may_refuse all at.0 at.1 c.in-Some.item.now at.2)

-- all were copied
pub returns-clause-copies : goal.returns-clause-copies
returns-clause-copies g c = λ all lends. copied_all g.I.Iterator.next_gives all c.loop-item.copies.items c.loop-item.item-iterator c.next.new.self
    (c.loop-item.invariant.2 all lends) c.in-None.ensures.steps
