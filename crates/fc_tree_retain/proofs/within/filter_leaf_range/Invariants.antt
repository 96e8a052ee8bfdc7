use Rattle.std.proofs.Common.{◌-◌, length, take}
use Rattle.fc_tree_node.specs.Node.{own_pairs}
use Rattle.fc_tree_retain.specs.Unbalanced.{IsUnbalanced}
use Rattle.fc_tree_retain.specs.Filtered.{FiltersPair}
use Rattle.fc_tree_retain.proofs.Passing.{IsLeafFiltered}
use Rattle.fc_tree_retain.proofs.within.filter_leaf_range.Given as goal

abbrev pub invariant-loop : goal.invariant-loop
invariant-loop g l = record {
  callable : g.S.Filter.callable l.filter;
  unbalanced : IsUnbalanced 0 l.node;
  at : IsLeafFiltered (FiltersPair g.S.Filter.asked g.S.Filter.given) (take l.start (own_pairs l.initial.node)) (length (own_pairs l.initial.node) - l.end)
      l.initial.filter l.filter (own_pairs l.initial.node) (own_pairs l.node) l.at (l.end - l.counter);
}
