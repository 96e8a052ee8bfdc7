use Rattle.fc_tree_node.specs.Measures.{nodes_of}
use Rattle.fc_tree_node.specs.Bare.{bare}
use Rattle.fc_tree_for_each.specs.Visits.{CalledAtPair}
use Rattle.fc_tree_for_each.proofs.Walking.{IsAt}
use Rattle.fc_tree_for_each.proofs.visit.+visit.Given as goal

abbrev pub decreases-visit : goal.decreases-visit
decreases-visit g l = nodes_of (bare l.node.now)

abbrev pub invariant-loop-i : goal.invariant-loop-i
invariant-loop-i g l = record {
  callable : goal.F-IsAlwaysCallable g l.f;
  at : IsAt (CalledAtPair g.F.FnMut) l.initial.node l.node l.initial.f l.f l.from l.to l.i l.end l.rest l.to_rest;
}
