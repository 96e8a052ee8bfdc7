use Rattle.std.proofs.Common.{rules, arith, ◌++◌, length, ap, ◌∙◌, length-append}
use Rattle.fc_tree_node.specs.Node.{items_or_none}
use Rattle.fc_tree_drain.specs.Opened.{after_front}
use Rattle.fc_tree_drain.proofs.Opening.{bottom_rest, bottom_over, bottom_even, under_over_first, filled_front, front_over, front_parted}
use Rattle.fc_tree_drain.proofs.Ends.{front_some}
use Rattle.fc_tree_drain.proofs.owned.move_to_front.Goals as goal

pub returns-then-child_count-len-clause-pairs : goal.returns-then-child_count-len-clause-pairs
returns-then-child_count-len-clause-pairs g c =
    filled_front c.args.back.now _ _ c.take_bottom-node.result c.take_bottom-node.ensures
    (ap (λ zs. zs ++ after_front c.push.new.self) c.requires.used_up ∙ front_over c.args.front.now _ _ c.requires.none (omega arith) c.push.ensures)

pub returns-then-child_count-len-clause-front : goal.returns-then-child_count-len-clause-front
returns-then-child_count-len-clause-front g c = bottom_over _ _ c.args.front.now _ _ c.requires.levels c.take_bottom-node.ensures c.requires.none c.push.ensures

pub returns-then-child_count-len-clause-back : goal.returns-then-child_count-len-clause-back
returns-then-child_count-len-clause-back g c = bottom_rest _ _ _ c.requires.levels c.take_bottom-node.ensures

pub returns-then-child_count-len-clause-some : goal.returns-then-child_count-len-clause-some
returns-then-child_count-len-clause-some g c =
    let f = bottom_over _ _ c.args.front.now _ _ c.requires.levels c.take_bottom-node.ensures c.requires.none c.push.ensures in
    let e = ap length c.push.ensures ∙ length-append c.args.front.now _ in
    let k = front_some c.push.new.self 0 _ f (omega arith) in
    let l = length-append (items_or_none c.args.run.now) (after_front c.push.new.self) in
    omega arith

pub open_first-requires : goal.open_first-requires
open_first-requires g c =
    let e = bottom_even _ _ c.take_bottom-node.result c.requires.levels c.take_bottom-node.ensures (omega arith) in (
      search rules,
      under_over_first _ _ c.args.front.now _ c.take_bottom-node.result _ _ c.requires.levels c.take_bottom-node.ensures e c.requires.none
          c.take_first_child-child.ensures.children c.take_first_child-child.ensures.pairs c.push-2.ensures,
    )

pub returns-clause-pairs : goal.returns-clause-pairs
returns-clause-pairs g c =
    let e = bottom_even _ _ c.take_bottom-node.result c.requires.levels c.take_bottom-node.ensures (omega arith) in
    let q = c.take_first_child-child.ensures in
    let p = front_parted c.args.front.now c.push-2.new.self _ _ _ _ c.requires.none e q.children q.pairs c.push-2.ensures c.open_first.ensures.pairs in
    filled_front c.args.back.now _ _ c.take_bottom-node.result c.take_bottom-node.ensures p

pub returns-clause-back : goal.returns-clause-back
returns-clause-back g c = bottom_rest _ _ _ c.requires.levels c.take_bottom-node.ensures

pub returns-clause-some : goal.returns-clause-some
returns-clause-some g c =
    let l = length-append (items_or_none c.open_first.new.run) (after_front c.open_first.new.stack) in omega arith
