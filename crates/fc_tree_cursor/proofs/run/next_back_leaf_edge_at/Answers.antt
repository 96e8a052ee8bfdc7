use Rattle.std.proofs.Common.{◌-◌, ◌<◌, [], length, ap, arith}
use Rattle.fc_tree_node.specs.Node.{own_pairs, pairs_of}
use Rattle.fc_tree_node.specs.Place.{before_own}
use Rattle.fc_tree_cursor.proofs.GapFacts.{own_count}
use Rattle.fc_tree_cursor.proofs.Ways.{set_here, set_below, levels_below}
use Rattle.fc_tree_cursor.proofs.run.next_back_leaf_edge_at.Goals as goal

pub last_leaf_edge_at-requires-clause-levels : goal.last_leaf_edge_at-requires-clause-levels
last_leaf_edge_at-requires-clause-levels g c =
    let own = c.requires.own in
    (levels_below c.args.gap.now c.set.new.self c.args.level (c.step-step.result - 1) _ c.args.node.now c.child.result.now c.set.ensures
    (omega (arith, c.len-len.ensures.value)) c.requires.levels (omega (arith, c.step-step.ensures, own)) c.child.ensures).1

pub returns-then-level-len : goal.returns-then-level-len
returns-then-level-len g c =
    let own : c.step-step.result - 1 < length (own_pairs c.args.node.now) = omega (arith, c.step-step.ensures, c.requires.own) in
    let same = ap (λ i. length (before_own c.args.node.now (i - 1))) c.step-step.ensures in
    set_below c.args.gap.now c.set.new.self c.last_leaf_edge_at.new.gap c.args.level (c.step-step.result - 1) _ c.args.node.now c.child.result.now _
    (omega (arith, c.len-len.ensures.value)) c.set.ensures c.requires.levels (omega arith) c.child.ensures c.last_leaf_edge_at.ensures
    (λ around. omega (arith, same, own_count _ c.args.node.now _ (pairs_of c.child.result.now) c.requires.levels own around))

pub returns-else-level-len : goal.returns-else-level-len
returns-else-level-len g c =
    let own : c.step-step.result - 1 < length (own_pairs c.args.node.now) = omega (arith, c.step-step.ensures, c.requires.own) in
    let same = ap (λ i. length (before_own c.args.node.now (i - 1))) c.step-step.ensures in
    set_here c.args.gap.now c.set.new.self c.args.level (c.step-step.result - 1) c.args.node.now _ (omega (arith, c.requires.level, c.len-len.ensures.value))
    c.set.ensures c.requires.levels (omega arith) (λ around. omega (arith, same, own_count _ c.args.node.now _ [] c.requires.levels own around))
