use Rattle.std.proofs.Common.{◌-◌, ◌≤◌, length, arith}
use Rattle.fc_tree_node.proofs.Cuts.{put_front, put_back}
use Rattle.fc_tree_node.proofs.node.split.split_children.Goals as goal

pub returns-then-index-keep-clause-items : goal.returns-then-index-keep-clause-items
returns-then-index-keep-clause-items g c =
    let h : c.args.index ≤ c.args.keep - 1 = omega arith in
    let l : c.args.keep - 1 ≤ length c.args.left.now = omega arith in
    simp (c.insert.ensures, c.move_tail.ensures.items, c.move_tail.ensures.other, c.requires.empty) (put_front c.args.left.now _ c.args.index c.args.child h l)

pub returns-else-index-keep-clause-items : goal.returns-else-index-keep-clause-items
returns-else-index-keep-clause-items g c =
    let l : c.args.keep ≤ length c.args.left.now = omega arith in
    simp (c.insert-else-index-keep.ensures, c.move_tail-else-index-keep.ensures.items, c.move_tail-else-index-keep.ensures.other, c.requires.empty)
    (put_back c.args.left.now _ c.args.index c.args.child c.if-index-keep.false l)
