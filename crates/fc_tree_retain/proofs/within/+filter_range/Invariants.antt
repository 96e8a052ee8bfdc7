use Rattle.std.proofs.Common.{◌≤◌}
use Rattle.fc_tree_node.specs.Measures.{height_of}
use Rattle.fc_tree_retain.specs.Filtered.{FiltersPair}
use Rattle.fc_tree_retain.proofs.Stretching.{IsStretching}
use Rattle.fc_tree_retain.proofs.within.+filter_range.Given as goal

abbrev pub decreases-filter_range : goal.decreases-filter_range
decreases-filter_range g l = height_of l.node.now

abbrev pub invariant-loop : goal.invariant-loop
invariant-loop g l = record {
  callable : g.S.Filter.callable l.filter;
  end : l.counter ≤ l.end;
  at : IsStretching (FiltersPair g.S.Filter.asked g.S.Filter.given) l.initial.filter l.filter l.front l.initial.node l.node l.front_rest l.start l.counter l.at;
}
