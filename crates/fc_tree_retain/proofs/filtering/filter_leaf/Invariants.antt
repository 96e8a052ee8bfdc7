use Rattle.std.proofs.Common.{◌-◌, []}
use Rattle.fc_tree_node.specs.Node.{own_pairs}
use Rattle.fc_tree_retain.specs.Unbalanced.{IsUnbalanced}
use Rattle.fc_tree_retain.specs.Filtered.{FiltersPair}
use Rattle.fc_tree_retain.proofs.Passing.{IsLeafFiltered}
use Rattle.fc_tree_retain.proofs.filtering.filter_leaf.Given as goal

abbrev pub invariant-loop : goal.invariant-loop
invariant-loop g l = record {
  callable : g.S.Filter.callable l.filter;
  unbalanced : IsUnbalanced 0 l.node;
  at : IsLeafFiltered (FiltersPair g.S.Filter.asked g.S.Filter.given) [] 0 l.initial.filter l.filter (own_pairs l.initial.node) (own_pairs l.node) l.at
      (l.end - l.counter);
}
