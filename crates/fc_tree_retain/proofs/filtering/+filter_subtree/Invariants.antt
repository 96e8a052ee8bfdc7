use Rattle.std.proofs.Common.{◌-◌}
use Rattle.fc_tree_node.specs.Measures.{height_of}
use Rattle.fc_tree_retain.specs.Filtered.{FiltersPair}
use Rattle.fc_tree_retain.proofs.Passing.{IsFiltering}
use Rattle.fc_tree_retain.proofs.filtering.+filter_subtree.Given as goal

abbrev pub decreases-filter_subtree : goal.decreases-filter_subtree
decreases-filter_subtree g l = height_of l.node.now

abbrev pub invariant-loop : goal.invariant-loop
invariant-loop g l = record {
  callable : g.S.Filter.callable l.filter;
  at : IsFiltering (FiltersPair g.S.Filter.asked g.S.Filter.given) l.initial.filter l.filter l.initial.node l.node l.at (l.end - l.counter);
}
