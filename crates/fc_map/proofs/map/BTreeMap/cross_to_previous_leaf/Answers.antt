use Rattle.std.proofs.Common.{◌≡◌, ◌-◌, ◌∷◌, ◌++◌, [], take, get_or, length, arith, sym, ap, subst, ◌∙◌}
use Rattle.fc_tree_node.specs.Place.{before_pair}
use Rattle.fc_tree_cursor.specs.Gap.{GoesOn}
use Rattle.fc_tree_cursor.proofs.GapFacts.{IsLast, some_last, place_back, stepped_before}
use Rattle.fc_map.proofs.map.BTreeMap.cross_to_previous_leaf.Goals as goal

pub overflow_sub-gap : goal.overflow_sub-gap
overflow_sub-gap g c =
    let m = c.args.self.now in
    let p = c.as_slice-gap.result.now in
    let is = sym c.self.view_is ∙ c.in-Some.is in
    let e = c.steps_to_previous-last.ensures in
    let last : IsLast p c.in-Some.root c.steps_to_previous-last.result = record {
      within = e.within;
      none = e.none;
      place = e.place;
      before = e.before;
      step =
          e.step;
    } in
    let some = some_last m _ p c.steps_to_previous-last.result is last (rw c.as_slice-gap.ensures.value c.requires.some) in
    let k = e.step (c.steps_to_previous-last.result - 1) (omega (arith, some)) in
    omega (arith, k)

pub push_gap_before-requires-clause-place : goal.push_gap_before-requires-clause-place
push_gap_before-requires-clause-place g c =
    let m = c.args.self.now in
    let p = c.as_slice-gap.result.now in
    let is = sym c.self.view_is ∙ c.in-Some.is in
    let e = c.steps_to_previous-last.ensures in
    let last : IsLast p c.in-Some.root c.steps_to_previous-last.result = record {
      within = e.within;
      none = e.none;
      place = e.place;
      before = e.before;
      step =
          e.step;
    } in
    let some = some_last m _ p c.steps_to_previous-last.result is last (rw c.as_slice-gap.ensures.value c.requires.some) in
    let i = c.steps_to_previous-last.result - 1 in
    let place : c.as_slice.result.now ≡ take i p ++ (get_or p i 0 - 1) ∷ [] = c.as_slice.ensures.value ∙ c.push.ensures
    ∙ ap (λ q. q ++ (get_or p i 0 - 1) ∷ []) c.of-place.ensures in
    (place_back c.in-Some.root p c.as_slice.result.now i c.steps_to_previous-last.result last (omega (arith, some)) place).0

pub returns : goal.returns
returns g c =
    let m = c.args.self.now in
    let p = c.as_slice-gap.result.now in
    let same = c.as_slice-gap.ensures.value in
    let n = c.in-Some.root in
    let is = sym c.self.view_is ∙ c.in-Some.is in
    let e = c.steps_to_previous-last.ensures in
    let last : IsLast p n c.steps_to_previous-last.result = record { within = e.within; none = e.none; place = e.place; before = e.before; step = e.step } in
    let some = some_last m _ p c.steps_to_previous-last.result is last (rw same c.requires.some) in
    let i = c.steps_to_previous-last.result - 1 in
    let place : c.push.new.self ≡ take i p ++ (get_or p i 0 - 1) ∷ [] = c.push.ensures ∙ ap (λ q. q ++ (get_or p i 0 - 1) ∷ []) c.of-place.ensures in
    let on = subst (λ q. GoesOn q c.push_gap_before.new.gap n (length (before_pair c.push.new.self n))) c.new-next.ensures
    (rw c.as_slice.ensures.value at c.push_gap_before.ensures) in
    let r = stepped_before m n p c.push.new.self c.push_gap_before.new.gap i c.steps_to_previous-last.result is last (omega (arith, some)) place on in
    record { place = r.place; before = rw (← same) r.before; gap = r.slot; step = rw (← same) r.count; sound = rw c.self.view_is at c.self.invariant.1 }
