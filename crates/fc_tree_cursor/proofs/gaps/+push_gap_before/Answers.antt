use Rattle.std.proofs.Common.{List, ◌+◌, ◌∷◌, [], length, get_or, refl, arith, sym, subst, ap, ◌∙◌, length-append}
use Rattle.std.specs.Prelude.{slice_range}
use Rattle.fc_tree_node.specs.Place.{IsPlace, before_child, before_pair}
use Rattle.fc_tree_node.proofs.PathSteps.{more_steps}
use Rattle.fc_tree_cursor.specs.Gap.{GoesOn}
use Rattle.fc_tree_cursor.proofs.GapFacts.{end_step, around_gap, around_child, own_count, goes_here, goes_below}
use Rattle.fc_tree_cursor.proofs.gaps.+push_gap_before.Goals as goal

pub returns-then-place-gt1 : goal.returns-then-place-gt1
returns-then-place-gt1 g t c =
    let place = c.args.place.now in
    let p = more_steps place (omega arith) in
    let rest = slice_range place 1 (length place) in
    let q = more_steps rest (let k = ap length p in omega arith) in
    let all = p ∙ ap (λ r. get_or place 0 0 ∷ r) q in
    subst (λ (r : List _). GoesOn c.args.gap.now c.push_gap_before.new.gap c.args.node.now (length (before_pair r c.args.node.now))) (sym all)
    (goes_below c.args.gap.now c.push.new.self c.push_gap_before.new.gap (get_or place 0 0) c.requires.levels.0 c.args.node.now c.child.result.now _ _
    c.requires.levels.1 (subst (λ r. IsPlace r c.args.node.now) all c.requires.place).0 c.push.ensures c.child.ensures
    (subst (λ r. GoesOn c.push.new.self c.push_gap_before.new.gap c.child.result.now (length (before_pair r c.child.result.now))) q c.push_gap_before.ensures)
    (length-append (before_child c.args.node.now (get_or place 0 0)) _
    ∙ ap (λ d. length (before_child c.args.node.now (get_or place 0 0)) + length (before_pair (get_or rest 0 0 ∷ slice_range rest 1 (length rest)) d))
    (sym c.child.ensures)))

pub returns-then-step-child_count : goal.returns-then-step-child_count
returns-then-step-child_count g t c =
    let place = c.args.place.now in
    let l = c.requires.levels in
    let all = end_step place c.args.node.now c.requires.place (omega arith) in
    subst (λ (r : List _). GoesOn c.args.gap.now c.last_leaf_edge.new.gap c.args.node.now (length (before_pair r c.args.node.now))) (sym all)
    (goes_below c.args.gap.now c.push.new.self c.last_leaf_edge.new.gap (get_or place 0 0) l.0 c.args.node.now c.child-then-step-child_count.result.now _ _ l.1
    (omega arith) c.push.ensures c.child-then-step-child_count.ensures c.last_leaf_edge.ensures.gap
    (own_count l.0 c.args.node.now (get_or place 0 0) _ l.1 (subst (λ r. IsPlace r c.args.node.now) all c.requires.place)
    (around_child l.0 c.args.node.now _ (get_or place 0 0) l.1 (omega arith) c.child-then-step-child_count.ensures)))

pub returns-else-step-child_count : goal.returns-else-step-child_count
returns-else-step-child_count g t c =
    let place = c.args.place.now in
    let l = c.requires.levels in
    let all = end_step place c.args.node.now c.requires.place (omega arith) in
    let own = subst (λ r. IsPlace r c.args.node.now) all c.requires.place in
    subst (λ (r : List _). GoesOn c.args.gap.now c.push.new.self c.args.node.now (length (before_pair r c.args.node.now))) (sym all)
    (goes_here c.args.gap.now c.push.new.self (get_or place 0 0) l.0 c.args.node.now _ _ l.1 (omega arith) (omega arith) c.push.ensures
    (own_count l.0 c.args.node.now (get_or place 0 0) [] l.1 own (around_gap l.0 c.args.node.now (get_or place 0 0) l.1 (omega arith) (omega arith))) refl)
