use Rattle.std.proofs.Common.{◌-◌, take}
use Rattle.std.specs.List.{AllByRecursion}
use Rattle.fc_tree_node.specs.Node.{children_of}
use Rattle.fc_tree_node.proofs.Pairs.{IsBelow}
use Rattle.test_tree.proofs.trees.+is_levelled.Given as goal

abbrev pub decreases-is_levelled : goal.decreases-is_levelled
decreases-is_levelled l = l.height

abbrev pub invariant-loop-i : goal.invariant-loop-i
invariant-loop-i l = AllByRecursion (IsBelow (l.height - 1)) (take l.i (children_of l.node))
