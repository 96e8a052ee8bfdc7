use Rattle.std.proofs.Common.{length}
use Rattle.fc_tree_split.proofs.cutting.+cut_into.Given as goal

abbrev pub decreases-cut_into : goal.decreases-cut_into
decreases-cut_into g l = length l.path.now
