use Rattle.std.proofs.Common.{[], rules, arith}
use Rattle.fc_tree_node.specs.Node.{pairs_of}
use Rattle.fc_tree_cursor.proofs.GapFacts.{end_count}
use Rattle.fc_tree_cursor.proofs.Ways.{set_here, set_below, levels_below, set_length}
use Rattle.fc_tree_cursor.proofs.run.+last_leaf_edge_at.Goals as goal

pub last_leaf_edge_at-requires : goal.last_leaf_edge_at-requires
last_leaf_edge_at-requires g t c κs within =
    let b = levels_below c.args.gap.now c.set.new.self c.args.level c.len-end.result _ c.args.node.now c.child.result.now c.set.ensures (omega arith)
    c.requires.levels (omega arith) c.child.ensures in
    let long = set_length c.args.gap.now c.set.new.self c.args.level _ c.set.ensures in
    (omega arith, (search rules, (search rules, (search rules, b))))

pub returns-then-level-len : goal.returns-then-level-len
returns-then-level-len g t c =
    set_below c.args.gap.now c.set.new.self c.last_leaf_edge_at.new.gap c.args.level c.len-end.result _ c.args.node.now c.child.result.now _
    (omega (arith, c.len-len.ensures.value)) c.set.ensures c.requires.levels (omega arith) c.child.ensures c.last_leaf_edge_at.ensures
    (end_count c.args.node.now c.len-end.result (pairs_of c.child.result.now) (omega arith))

pub returns-else-level-len : goal.returns-else-level-len
returns-else-level-len g t c =
    set_here c.args.gap.now c.set.new.self c.args.level c.len-end.result c.args.node.now _ (omega (arith, c.requires.level, c.len-len.ensures.value))
    c.set.ensures c.requires.levels (omega arith) (end_count c.args.node.now c.len-end.result [] (omega arith))
