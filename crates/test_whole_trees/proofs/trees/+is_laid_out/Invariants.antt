use Rattle.test_whole_trees.proofs.trees.+is_laid_out.Given as goal

abbrev pub decreases-is_laid_out : goal.decreases-is_laid_out
decreases-is_laid_out l = l.height
