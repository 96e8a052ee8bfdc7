use Rattle.std.proofs.Common.{◌-◌}
use Rattle.fc_tree_node.specs.Measures.{height_of}
use Rattle.fc_tree_retain.proofs.Settling.{IsRebalancing}
use Rattle.fc_tree_retain.proofs.rebalancing.+rebalance.Given as goal

abbrev pub decreases-rebalance : goal.decreases-rebalance
decreases-rebalance g l = height_of l.node.now

abbrev pub invariant-loop : goal.invariant-loop
invariant-loop g l = IsRebalancing l.fn.node l.node l.at (l.end - l.counter)
