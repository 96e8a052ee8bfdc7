use Rattle.std.proofs.Common.{[], refl, rules, arith}
use Rattle.fc_tree_node.specs.Node.{pairs_of}
use Rattle.fc_tree_cursor.proofs.GapFacts.{around_gap, around_child, end_count, goes_here, goes_below, step_down, ends_here, ends_below}
use Rattle.fc_tree_cursor.proofs.gaps.+last_leaf_edge.Goals as goal

pub last_leaf_edge-requires : goal.last_leaf_edge-requires
last_leaf_edge-requires g t c κs within =
    let d = step_down c.args.gap.now _ _ c.args.node.now _ c.requires.levels (omega arith) c.push.ensures c.child.ensures in
    (omega arith, (search rules, (search rules, (search rules, d.0))))

pub returns-then-end-child_count-clause-gap : goal.returns-then-end-child_count-clause-gap
returns-then-end-child_count-clause-gap g t c =
    let l = c.requires.levels in
    goes_below c.args.gap.now c.push.new.self c.last_leaf_edge.new.gap c.len-end.result l.0 c.args.node.now c.child.result.now _ _ l.1
    (omega arith) c.push.ensures
    c.child.ensures c.last_leaf_edge.ensures.gap
    (end_count c.args.node.now c.len-end.result (pairs_of c.child.result.now) (omega arith)
    (around_child l.0 c.args.node.now c.child.result.now c.len-end.result l.1 (omega arith) c.child.ensures))

pub returns-clause-gap : goal.returns-clause-gap
returns-clause-gap g t c =
    let l = c.requires.levels in
    goes_here c.args.gap.now c.push.new.self c.len-end.result l.0 c.args.node.now _ _ l.1 (omega arith) (omega arith) c.push.ensures
    (end_count c.args.node.now c.len-end.result [] (omega arith) (around_gap l.0 c.args.node.now c.len-end.result l.1 (omega arith) (omega arith))) refl

pub returns-then-end-child_count-clause-leaf : goal.returns-then-end-child_count-clause-leaf
returns-then-end-child_count-clause-leaf g t c =
    let l = c.requires.levels in
    ends_below c.args.gap.now c.push.new.self c.last_leaf_edge.new.gap c.len-end.result _ c.args.node.now c.child.result.now c.last_leaf_edge.result.now
    c.push.ensures
    c.child.ensures l.0 l.1 (omega arith) c.last_leaf_edge.ensures.gap c.last_leaf_edge.ensures.leaf

pub returns-clause-leaf : goal.returns-clause-leaf
returns-clause-leaf g t c = ends_here c.args.gap.now c.push.new.self c.len-end.result c.args.node.now c.push.ensures
