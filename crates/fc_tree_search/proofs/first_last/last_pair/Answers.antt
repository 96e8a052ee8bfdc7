use Rattle.std.proofs.Common.{◌-◌, refl, arith}
use Rattle.fc_tree_node.proofs.MeasureFacts.{fewer_nodes}
use Rattle.fc_tree_search.proofs.EndFacts.{child_of, last_start, last_down, last_found}
use Rattle.fc_tree_search.proofs.first_last.last_pair.Goals as goal

pub down-init : goal.down-init
down-init g c = last_start c.requires.0 c.args.root.now c.requires.1

pub child-node-requires : goal.child-node-requires
child-node-requires g c =
    (child_of _ c.down.node.now c.len.result c.down.invariant.sound c.down-test.ensures.1 (omega arith)).there

pub down-smaller : goal.down-smaller
down-smaller g c =
    let w = child_of _ c.down.node.now c.len.result c.down.invariant.sound c.down-test.ensures.1 (omega arith) in
    fewer_nodes c.down.node.now c.child-node.result.now c.len.result w.there c.child-node.ensures

pub down-preserved : goal.down-preserved
down-preserved g c =
    let end = c.len.ensures.value in
    let w = child_of _ c.down.node.now c.len.result c.down.invariant.sound c.down-test.ensures.1 (omega arith) in
    last_down c.args.root.now c.down.node.now c.child-node.result.now c.len.result c.down.invariant w end c.child-node.ensures

pub pair-requires : goal.pair-requires
pair-requires g c =
    omega arith

pub returns : goal.returns
returns g c =
    last_found c.args.root.now c.down.node.now (c.len-2.result - 1) c.pair.result.now c.down.invariant (c.down-test.ensures.0 refl) (omega arith) c.pair.ensures
