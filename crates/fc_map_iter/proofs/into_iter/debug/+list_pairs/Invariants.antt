use Rattle.std.proofs.Common.{◌≡◌, ◌+◌, length}
use Rattle.fc_tree_node.specs.Node.{own_pairs}
use Rattle.fc_tree_node.specs.Measures.{nodes_of}
use Rattle.fc_map_iter.proofs.into_iter.debug.+list_pairs.Given as goal

abbrev pub decreases-list_pairs : goal.decreases-list_pairs
decreases-list_pairs g l = nodes_of l.node.now

abbrev pub invariant-loop-i : goal.invariant-loop-i
invariant-loop-i g l = l.i-end ≡ length (own_pairs l.node) + 1
