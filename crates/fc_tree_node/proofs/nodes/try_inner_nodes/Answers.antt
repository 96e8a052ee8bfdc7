use Rattle.std.proofs.Common.{arith}
use Rattle.fc_tree_node.proofs.Requested.{some_listed}
use Rattle.fc_tree_node.proofs.nodes.try_inner_nodes.Goals as goal

pub returns-in_err-node-clause-at_most : goal.returns-in_err-node-clause-at_most
returns-in_err-node-clause-at_most g c =
    let listed = some_listed 2 c.args.count (omega arith) in
    omega (arith, listed, c.loop-i.invariant, c.add_request.ensures, c.try_inner.ensures.at_most)

pub returns-clause-requests : goal.returns-clause-requests
returns-clause-requests g c = rw (some_listed 2 c.args.count (omega arith)) (omega (arith, c.loop-i.invariant, c.add_request.ensures))

pub returns-clause-at_most : goal.returns-clause-at_most
returns-clause-at_most g c = rw (some_listed 2 c.args.count (omega arith)) (omega (arith, c.loop-i.invariant, c.add_request.ensures))
