use Rattle.test_whole_trees.proofs.trees.+run_end.Given as goal

abbrev pub decreases-run_end : goal.decreases-run_end
decreases-run_end l = l.height
