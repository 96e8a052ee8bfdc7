use Rattle.std.proofs.Common.{◌≡◌, ◌+◌, length, take}
use Rattle.fc_tree_node.specs.Node.{own_pairs, children_of}
use Rattle.fc_tree_node.specs.Measures.{height_of}
use Rattle.fc_tree_split.proofs.Counts.{pairs_in}
use Rattle.fc_tree_split.proofs.counting.+count_pairs.Given as goal

abbrev pub decreases-count_pairs : goal.decreases-count_pairs
decreases-count_pairs g l = height_of l.node.now

abbrev pub invariant-loop-i : goal.invariant-loop-i
invariant-loop-i g l = l.total ≡ length (own_pairs l.node) + pairs_in (take l.i (children_of l.node))
