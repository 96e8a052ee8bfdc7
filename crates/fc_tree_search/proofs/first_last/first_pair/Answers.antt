use Rattle.std.proofs.Common.{refl, arith}
use Rattle.fc_tree_node.proofs.MeasureFacts.{fewer_nodes}
use Rattle.fc_tree_search.proofs.EndFacts.{child_of, first_start, first_down, first_found}
use Rattle.fc_tree_search.proofs.first_last.first_pair.Goals as goal

pub down-init : goal.down-init
down-init g c = first_start c.requires.0 c.args.root.now c.requires.1

pub child-node-requires : goal.child-node-requires
child-node-requires g c = (child_of _ c.down.node.now 0 c.down.invariant.sound c.down-test.ensures.1 (omega arith)).there

pub down-smaller : goal.down-smaller
down-smaller g c =
    let w = child_of _ c.down.node.now 0 c.down.invariant.sound c.down-test.ensures.1 (omega arith) in
    fewer_nodes c.down.node.now c.child-node.result.now 0 w.there c.child-node.ensures

pub down-preserved : goal.down-preserved
down-preserved g c =
    let w = child_of _ c.down.node.now 0 c.down.invariant.sound c.down-test.ensures.1 (omega arith) in
    first_down c.args.root.now c.down.node.now c.child-node.result.now c.down.invariant w c.child-node.ensures

pub pair-requires : goal.pair-requires
pair-requires g c = omega arith

pub returns : goal.returns
returns g c = first_found c.args.root.now c.down.node.now c.pair.result.now c.down.invariant (c.down-test.ensures.0 refl) c.pair.ensures
