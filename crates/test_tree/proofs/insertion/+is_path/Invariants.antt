use Rattle.std.proofs.Common.{length}
use Rattle.test_tree.proofs.insertion.+is_path.Given as goal

abbrev pub decreases-is_path : goal.decreases-is_path
decreases-is_path l = length l.path.now
