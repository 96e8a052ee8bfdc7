use Rattle.std.proofs.Common.{length, take, ap, ◌∙◌, arith, length-append}
use Rattle.fc_tree_node.proofs.Lists.{length_take}
use Rattle.fc_tree_node.proofs.Cuts.{front_steps}
use Rattle.fc_tree_node.proofs.node.bulk.share_front.Goals as goal

pub returns-clause-items : goal.returns-clause-items
returns-clause-items g c =
    let t = length_take c.args.n c.args.right.now c.requires.some.1 in
    let p = ap length c.move_front.ensures.other ∙ length-append c.args.left.now (take c.args.n c.args.right.now) in
    front_steps c.args.left.now c.args.parent.now c.args.right.now _ _ _ _ c.args.n _ _ c.args.index c.remove-up.result c.replace-down.result c.requires.some.0
    c.requires.some.1
    c.len-at.ensures.value c.move_front.ensures.other c.move_front.ensures.items (omega arith) c.remove-up.ensures.value c.remove-up.ensures.items
    c.replace-down.ensures.value c.requires.in_bounds c.insert.ensures.items
