use Rattle.std.proofs.Common.{◌≡◌, Global, length, refl, ap, ◌∙◌, arith}
use Rattle.std.specs.Vec.Iter.{into_iter_items, into_iter_steps}
use Rattle.std.proofs.lemmas.Iterator.Adapters.{YieldsList-from_vec}
use Rattle.fc_base.specs.Extended.{extended, IsExtendedUpTo}
use Rattle.fc_map.specs.Entries.{entries}
use Rattle.fc_command.specs.Step.{answered, stopped}
use Rattle.fc_command.proofs.ItemFacts.{given_all, given_front, stopped_before}
use Rattle.fc_command.proofs.command.world.extend.Goals as goal

-- all were put in
pub returns-in-Ok : goal.returns-in-Ok
returns-in-Ok g c o =
    let steps = into_iter_steps {X = g.row.K.Denot × g.row.V.Denot} {Z = Global} in
    let put_in = given_all steps _ c.args.pairs (λ all. entries c.try_extend.new.self ≡ extended g.K.Ord.cmp (entries c.args.map.now) all)
    (λ walk is. YieldsList-from_vec c.args.pairs (is.0 ∙ c.into_vec.ensures) (is.1 ∙ c.into_vec.result.ok.0 ∙ ap length c.into_vec.ensures))
    c.in-Ok.ensures.all in
    let all = ap length put_in in
    let len = c.len-len.ensures.value in
    let fits = c.len-len.type_inv in
    answered (λ after. omega arith) (refl, put_in, refl)

-- those before the one that was refused were put in
pub returns-in-Err : goal.returns-in-Err
returns-in-Err g c o =
    let steps = into_iter_steps {X = g.row.K.Denot × g.row.V.Denot} {Z = Global} in
    let refusal = c.in-Err.ensures.error in
    let up_to = given_front steps into_iter_items (λ s t x step. step.0) _ c.args.pairs
    (λ all. IsExtendedUpTo g.K.Ord.cmp (entries c.args.map.now) all (entries c.try_extend.new.self) c.in-Err.e) (λ walk is. is.0 ∙ c.into_vec.ensures)
    (stopped_before g.K.Ord.cmp (entries c.args.map.now) (entries c.try_extend.new.self) c.in-Err.e) (refusal.0, refusal.1, refusal.2) in
    stopped c.in-Err.e up_to (refl, refl)
