use Rattle.std.proofs.Common.{rules, ◌<◌, length, arith, ap, ◌∙◌, ◌++◌, sym, length-append}
use Rattle.fc_tree_node.specs.Node.{items_or_none}
use Rattle.fc_tree_drain.specs.Opened.{after_front, before_back}
use Rattle.fc_tree_drain.proofs.Ends.{none_front, refilled_front, exchanged, back_run}
use Rattle.fc_tree_drain.proofs.drain.refill_front.Goals as goal

pub move_to_front-requires : goal.move_to_front-requires
move_to_front-requires g c =
    let s = c.front.inside in
    let n = none_front (items_or_none s.run) s.nodes c.front.invariant (ap length c.front.view_is ∙ c.is_empty.ensures.0 c.if-not-is_empty.false) in
    (search rules, (n.1, (n.0, (omega arith, c.back.invariant))))

pub returns-clause-pairs : goal.returns-clause-pairs
returns-clause-pairs g c =
    refilled_front _ _ _ (items_or_none c.back.inside.run) c.args.front.now c.args.back.now c.move_to_front.ensures.pairs c.back.view_is
    (c.is_empty.ensures.0 c.if-not-is_empty.false)

pub returns-then-len-eq0-clause-pairs : goal.returns-then-len-eq0-clause-pairs
returns-then-len-eq0-clause-pairs g c =
    let s = c.front.inside in
    let b = c.back.inside in
    let n = none_front (items_or_none s.run) s.nodes c.front.invariant (ap length c.front.view_is ∙ c.is_empty.ensures.0 c.if-not-is_empty.false) in
    let e = exchanged (items_or_none b.run) (items_or_none s.run) s.nodes b.nodes n.1 (omega arith) (ap length n.0) in
    ap (λ r. (items_or_none r ++ after_front s.nodes) ++ (before_back b.nodes ++ items_or_none c.swap.new.y)) c.swap.ensures.x_after
    ∙ ap (λ r. (items_or_none b.run ++ after_front s.nodes) ++ (before_back b.nodes ++ items_or_none r)) c.swap.ensures.y_after ∙ sym e
    ∙ ap (λ xs. xs ++ (before_back b.nodes ++ items_or_none b.run)) c.front.view_is ∙ ap (λ xs. c.args.front.now ++ xs) c.back.view_is

pub returns-then-len-eq0-clause-some : goal.returns-then-len-eq0-clause-some
returns-then-len-eq0-clause-some g c =
    let b = c.back.inside in
    let z = c.is_empty.ensures.0 c.if-not-is_empty.false in
    let some : 0 < length c.args.back.now = omega (arith, length-append c.args.front.now c.args.back.now) in
    let k = back_run b.nodes (items_or_none b.run) c.args.back.now c.back.view_is some (omega arith) in
    let e = ap (λ r. length (items_or_none r)) c.swap.ensures.x_after in
    omega (arith, length-append (items_or_none c.swap.new.x) (after_front c.front.inside.nodes))
