use Rattle.std.proofs.Common.{arith}
use Rattle.fc_tree_node.proofs.Cuts.{back_steps}
use Rattle.fc_tree_node.proofs.node.bulk.share_back.Goals as goal

pub returns-clause-items : goal.returns-clause-items
returns-clause-items g c =
    back_steps c.args.left.now c.args.parent.now c.args.right.now _ _ _ _ c.args.n _ _ c.args.index c.remove-up.result c.replace-down.result c.requires.some.0
    c.requires.some.1
    (omega arith) c.remove-up.ensures.value c.remove-up.ensures.items c.len-end.ensures.value c.replace-down.ensures.value c.requires.in_bounds
    c.insert.ensures.items c.move_back.ensures.items c.move_back.ensures.other
