use Rattle.std.proofs.Common.{◌≡◌, ◌≤◌}
use Rattle.fc_tree_node.specs.Node.{pairs_of}
use Rattle.fc_tree_node.specs.Bare.{bare}
use Rattle.fc_tree_for_each.specs.Visits.{CalledAtPair, IsVisitedAt}
use Rattle.fc_tree_for_each.proofs.visit.visit_leaf.Given as goal

abbrev pub invariant-loop-i : goal.invariant-loop-i
invariant-loop-i g l = record {
  callable : goal.F-IsAlwaysCallable g l.f;
  le : l.i ≤ l.end;
  same : bare l.node ≡ bare l.initial.node;
  visited : IsVisitedAt (CalledAtPair g.F.FnMut) l.initial.f l.f l.start l.i (pairs_of l.initial.node) (pairs_of l.node);
}
