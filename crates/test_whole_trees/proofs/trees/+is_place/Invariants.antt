use Rattle.std.proofs.Common.{length}
use Rattle.test_whole_trees.proofs.trees.+is_place.Given as goal

abbrev pub decreases-is_place : goal.decreases-is_place
decreases-is_place l = length l.path.now
