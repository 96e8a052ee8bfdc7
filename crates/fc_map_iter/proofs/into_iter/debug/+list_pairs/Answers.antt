use Rattle.std.proofs.Common.{◌<◌, arith, rules}
use Rattle.fc_tree_node.specs.Measures.{nodes_of}
use Rattle.fc_tree_node.proofs.MeasureFacts.{fewer_nodes}
use Rattle.fc_map_iter.proofs.into_iter.debug.+list_pairs.Goals as goal

pub list_pairs-requires : goal.list_pairs-requires
list_pairs-requires g t c κs within =
    let there = c.if-i-child_count.true in
    let fewer : nodes_of c.child.result.now < nodes_of c.args.node.now =
    fewer_nodes c.args.node.now c.child.result.now c.loop-i.i (omega (arith, there, c.child_count.ensures.value)) c.child.ensures in
    (omega (arith, fewer, c.decreases), search rules)

pub list_pairs-requires-then-i-child_count-2 : goal.list_pairs-requires-then-i-child_count-2
list_pairs-requires-then-i-child_count-2 g t c κs within =
    let there = c.if-i-child_count-2.true in
    let below = c.child-then-i-child_count-2 in
    let fewer : nodes_of below.result.now < nodes_of c.args.node.now =
    fewer_nodes c.args.node.now below.result.now c.loop-i.i (omega (arith, there, c.child_count-then-not-begins_below.ensures.value)) below.ensures in
    (omega (arith, fewer, c.decreases), search rules)
