use Rattle.test_whole_trees.proofs.trees.+find.Given as goal

abbrev pub decreases-find : goal.decreases-find
decreases-find l = l.height
