use Rattle.std.proofs.Common.{rules, ◌<◌, length, arith, ap, ◌∙◌, ◌++◌, length-append}
use Rattle.fc_tree_node.specs.Node.{items_or_none}
use Rattle.fc_tree_drain.specs.Opened.{after_front, before_back}
use Rattle.fc_tree_drain.proofs.Ends.{none_back, refilled_back, exchanged, front_run}
use Rattle.fc_tree_drain.proofs.drain.refill_back.Goals as goal

pub move_to_back-requires : goal.move_to_back-requires
move_to_back-requires g c =
    let s = c.back.inside in
    let n = none_back s.nodes (items_or_none s.run) c.back.invariant (ap length c.back.view_is ∙ c.is_empty.ensures.0 c.if-not-is_empty.false) in
    (search rules, (n.1, (n.0, (omega arith, c.front.invariant))))

pub returns-clause-pairs : goal.returns-clause-pairs
returns-clause-pairs g c =
    refilled_back (items_or_none c.front.inside.run) _ _ _ c.args.front.now c.args.back.now c.move_to_back.ensures.pairs c.front.view_is
    (c.is_empty.ensures.0 c.if-not-is_empty.false)

pub returns-then-len-eq0-clause-pairs : goal.returns-then-len-eq0-clause-pairs
returns-then-len-eq0-clause-pairs g c =
    let s = c.front.inside in
    let b = c.back.inside in
    let n = none_back b.nodes (items_or_none b.run) c.back.invariant (ap length c.back.view_is ∙ c.is_empty.ensures.0 c.if-not-is_empty.false) in
    let e = exchanged (items_or_none s.run) (items_or_none b.run) s.nodes b.nodes (omega arith) n.1 (ap length n.0) in
    ap (λ r. (items_or_none r ++ after_front s.nodes) ++ (before_back b.nodes ++ items_or_none c.swap.new.x)) c.swap.ensures.y_after
    ∙ ap (λ r. (items_or_none b.run ++ after_front s.nodes) ++ (before_back b.nodes ++ items_or_none r)) c.swap.ensures.x_after ∙ e
    ∙ ap (λ xs. xs ++ (before_back b.nodes ++ items_or_none b.run)) c.front.view_is ∙ ap (λ xs. c.args.front.now ++ xs) c.back.view_is

pub returns-then-len-eq0-clause-some : goal.returns-then-len-eq0-clause-some
returns-then-len-eq0-clause-some g c =
    let s = c.front.inside in
    let z = c.is_empty.ensures.0 c.if-not-is_empty.false in
    let some : 0 < length c.args.front.now = omega (arith, length-append c.args.front.now c.args.back.now) in
    let k = front_run (items_or_none s.run) s.nodes c.args.front.now c.front.view_is some (omega arith) in
    let e = ap (λ r. length (items_or_none r)) c.swap.ensures.x_after in
    omega (arith, length-append (before_back c.back.inside.nodes) (items_or_none c.swap.new.x))
