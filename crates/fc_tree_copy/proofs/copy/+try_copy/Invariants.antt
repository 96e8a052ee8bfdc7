use Rattle.std.proofs.Common.{◌≡◌, ◌+◌, length, take}
use Rattle.fc_tree_node.specs.Node.{children_of}
use Rattle.fc_tree_node.specs.Measures.{nodes_of}
use Rattle.fc_tree_node.specs.Blocks.{blocks_alone}
use Rattle.fc_tree_copy.specs.Copy.{AreSame, IsCopyUpTo}
use Rattle.fc_tree_node.proofs.BlockFacts.{all_blocks}
use Rattle.fc_tree_copy.proofs.copy.+try_copy.Given as goal

abbrev pub decreases-try_copy : goal.decreases-try_copy
decreases-try_copy g l = nodes_of l.node.now

abbrev pub invariant-loop-i : goal.invariant-loop-i
invariant-loop-i g l =
    (l.i-end ≡ length (children_of l.node)) × IsCopyUpTo (AreSame g.K.TryClone.same g.V.TryClone.same) l.i l.node l.copy
    × (l.asked.requests ≡ l.fn.asked.requests + (blocks_alone l.node + all_blocks (take l.i (children_of l.node))))
