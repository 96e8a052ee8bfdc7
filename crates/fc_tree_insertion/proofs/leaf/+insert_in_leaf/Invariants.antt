use Rattle.std.proofs.Common.{length}
use Rattle.fc_tree_insertion.proofs.leaf.+insert_in_leaf.Given as goal

abbrev pub decreases-insert_in_leaf : goal.decreases-insert_in_leaf
decreases-insert_in_leaf g l = length l.path.now
