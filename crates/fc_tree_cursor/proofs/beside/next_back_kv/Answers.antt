use Rattle.std.proofs.Common.{◌≡◌, ◌-◌, ◌∷◌, ◌++◌, [], take, get_or, ap, ◌∙◌, arith}
use Rattle.fc_tree_cursor.proofs.GapFacts.{IsLast}
use Rattle.fc_tree_cursor.proofs.Places.{turned_back}
use Rattle.fc_tree_cursor.proofs.beside.next_back_kv.Goals as goal

pub overflow_sub-gap : goal.overflow_sub-gap
overflow_sub-gap g c =
    let e = c.steps_to_previous-steps.ensures in
    let k = e.step (c.steps_to_previous-steps.result - 1) (omega arith) in
    omega (arith, k)

pub returns : goal.returns
returns g c =
    let p = c.as_slice-gap.result.now in
    let n = c.args.root.now in
    let e = c.steps_to_previous-steps.ensures in
    let steps = c.steps_to_previous-steps.result in
    let last : IsLast p n steps = record { within = e.within; none = e.none; place = e.place; before = e.before; step = e.step } in
    let is : c.push.new.self ≡ take (steps - 1) p ++ (get_or p (steps - 1) 0 - 1) ∷ [] = c.push.ensures
    ∙ ap (λ q. q ++ (get_or p (steps - 1) 0 - 1) ∷ []) c.of-place.ensures in
    turned_back n p c.args.path.now c.push.new.self (steps - 1) steps c.as_slice-gap.ensures.value last (omega arith) is
