use Rattle.std.proofs.Common.{◌≡◌, Global, length, refl, ap, ◌∙◌, arith}
use Rattle.std.specs.Vec.Iter.{into_iter_items, into_iter_steps}
use Rattle.std.proofs.lemmas.Iterator.Adapters.{YieldsList-from_vec}
use Rattle.fc_set.specs.Items.{items, extended_items, AreExtendedUpTo}
use Rattle.fc_command.specs.SetStep.{answered, stopped}
use Rattle.fc_command.proofs.ItemFacts.{given_all, given_front, items_stopped_before}
use Rattle.fc_command.proofs.command.sets.extend.Goals as goal

-- all were put in
pub returns-in-Ok : goal.returns-in-Ok
returns-in-Ok g c o =
    let steps = into_iter_steps {X = g.row.K.Denot} {Z = Global} in
    let put_in = given_all steps _ c.args.more (λ all. items c.try_extend.new.self ≡ extended_items g.K.Ord.cmp (items c.args.set.now) all)
    (λ walk is. YieldsList-from_vec c.args.more (is.0 ∙ c.into_vec.ensures) (is.1 ∙ c.into_vec.result.ok.0 ∙ ap length c.into_vec.ensures))
    c.in-Ok.ensures.all in
    let all = ap length put_in in
    let len = c.len-len.ensures.value in
    answered (λ after. omega (arith, all, len, after)) (refl, put_in, refl)

-- those before the one that was refused were put in
pub returns-in-Err : goal.returns-in-Err
returns-in-Err g c o =
    let steps = into_iter_steps {X = g.row.K.Denot} {Z = Global} in
    let refusal = c.in-Err.ensures.error in
    let up_to = given_front steps into_iter_items (λ s t x step. step.0) _ c.args.more
    (λ all. AreExtendedUpTo g.K.Ord.cmp (items c.args.set.now) all (items c.try_extend.new.self) c.in-Err.e) (λ walk is. is.0 ∙ c.into_vec.ensures)
    (items_stopped_before g.K.Ord.cmp (items c.args.set.now) (items c.try_extend.new.self) c.in-Err.e) (refusal.0, refusal.1, refusal.2) in
    stopped c.in-Err.e up_to (refl, refl)
