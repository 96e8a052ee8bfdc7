use Rattle.std.proofs.Common.{rules, arith, ◌++◌, length, ap, ◌∙◌, length-append, append-nil}
use Rattle.fc_tree_node.specs.Node.{items_or_none}
use Rattle.fc_tree_drain.specs.Opened.{before_back}
use Rattle.fc_tree_drain.proofs.Opening.{bottom_rest, bottom_over, bottom_even, under_over_last, filled_back, back_over, back_parted}
use Rattle.fc_tree_drain.proofs.Ends.{back_some}
use Rattle.fc_tree_drain.proofs.owned.move_to_back.Goals as goal

pub returns-then-child_count-len-clause-pairs : goal.returns-then-child_count-len-clause-pairs
returns-then-child_count-len-clause-pairs g c =
    filled_back c.args.front.now _ _ c.take_bottom-node.result c.take_bottom-node.ensures
    (ap (λ zs. before_back c.push.new.self ++ zs) c.requires.used_up ∙ append-nil (before_back c.push.new.self)
    ∙ back_over c.args.back.now _ _ c.requires.none (omega arith) c.push.ensures)

pub returns-then-child_count-len-clause-back : goal.returns-then-child_count-len-clause-back
returns-then-child_count-len-clause-back g c = bottom_over _ _ c.args.back.now _ _ c.requires.levels c.take_bottom-node.ensures c.requires.none c.push.ensures

pub returns-then-child_count-len-clause-front : goal.returns-then-child_count-len-clause-front
returns-then-child_count-len-clause-front g c = bottom_rest _ _ _ c.requires.levels c.take_bottom-node.ensures

pub returns-then-child_count-len-clause-some : goal.returns-then-child_count-len-clause-some
returns-then-child_count-len-clause-some g c =
    let f = bottom_over _ _ c.args.back.now _ _ c.requires.levels c.take_bottom-node.ensures c.requires.none c.push.ensures in
    let e = ap length c.push.ensures ∙ length-append c.args.back.now _ in
    let k = back_some c.push.new.self 0 _ f (omega arith) in
    let l = length-append (before_back c.push.new.self) (items_or_none c.args.run.now) in
    omega arith

pub open_last-requires : goal.open_last-requires
open_last-requires g c =
    let e = bottom_even _ _ c.take_bottom-node.result c.requires.levels c.take_bottom-node.ensures (omega arith) in (
      search rules,
      under_over_last _ _ c.args.back.now _ c.take_bottom-node.result _ _ c.requires.levels c.take_bottom-node.ensures e c.requires.none
          c.take_last_child-child.ensures.children c.take_last_child-child.ensures.pairs c.push-2.ensures,
    )

pub returns-clause-pairs : goal.returns-clause-pairs
returns-clause-pairs g c =
    let e = bottom_even _ _ c.take_bottom-node.result c.requires.levels c.take_bottom-node.ensures (omega arith) in
    let q = c.take_last_child-child.ensures in
    let p = back_parted c.args.back.now c.push-2.new.self _ _ _ _ c.requires.none e q.children q.pairs c.push-2.ensures c.open_last.ensures.pairs in
    filled_back c.args.front.now _ _ c.take_bottom-node.result c.take_bottom-node.ensures p

pub returns-clause-front : goal.returns-clause-front
returns-clause-front g c = bottom_rest _ _ _ c.requires.levels c.take_bottom-node.ensures

pub returns-clause-some : goal.returns-clause-some
returns-clause-some g c =
    let l = length-append (before_back c.open_last.new.stack) (items_or_none c.open_last.new.run) in omega arith
