use Rattle.std.proofs.Common.{◌-◌}
use Rattle.fc_tree_retain.proofs.Bordering.{IsBordering}
use Rattle.fc_tree_retain.proofs.rebalancing.rebalance_between.Given as goal

abbrev pub invariant-loop : goal.invariant-loop
invariant-loop g l = IsBordering l.initial.node l.node l.first l.last l.at (l.last - l.counter)
