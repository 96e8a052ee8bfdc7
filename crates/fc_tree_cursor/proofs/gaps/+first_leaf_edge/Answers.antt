use Rattle.std.proofs.Common.{refl, rules, arith}
use Rattle.fc_tree_cursor.proofs.GapFacts.{goes_here, goes_below, step_down, ends_here, ends_below}
use Rattle.fc_tree_cursor.proofs.gaps.+first_leaf_edge.Goals as goal

pub first_leaf_edge-requires : goal.first_leaf_edge-requires
first_leaf_edge-requires g t c κs within =
    let d = step_down c.args.gap.now _ _ c.args.node.now _ c.requires.levels (omega arith) c.push.ensures c.child.ensures in
    (omega arith, (search rules, (search rules, (search rules, d.0))))

pub returns-then-child_count-gt0-clause-gap : goal.returns-then-child_count-gt0-clause-gap
returns-then-child_count-gt0-clause-gap g t c =
    goes_below c.args.gap.now c.push.new.self c.first_leaf_edge.new.gap 0 c.requires.levels.0 c.args.node.now c.child.result.now 0 0 c.requires.levels.1
    (omega arith) c.push.ensures c.child.ensures c.first_leaf_edge.ensures.gap refl

pub returns-clause-gap : goal.returns-clause-gap
returns-clause-gap g t c = goes_here c.args.gap.now c.push.new.self 0 c.requires.levels.0 c.args.node.now 0 0 c.requires.levels.1 (omega arith) (omega arith)
    c.push.ensures refl refl

pub returns-then-child_count-gt0-clause-leaf : goal.returns-then-child_count-gt0-clause-leaf
returns-then-child_count-gt0-clause-leaf g t c =
    let l = c.requires.levels in
    ends_below c.args.gap.now c.push.new.self c.first_leaf_edge.new.gap 0 _ c.args.node.now c.child.result.now c.first_leaf_edge.result.now c.push.ensures
    c.child.ensures l.0 l.1 (omega arith) c.first_leaf_edge.ensures.gap c.first_leaf_edge.ensures.leaf

pub returns-clause-leaf : goal.returns-clause-leaf
returns-clause-leaf g t c = ends_here c.args.gap.now c.push.new.self 0 c.args.node.now c.push.ensures
