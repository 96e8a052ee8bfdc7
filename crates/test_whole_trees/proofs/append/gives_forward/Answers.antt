use Rattle.test_whole_trees.proofs.append.gives_forward.Goals as goal

pub loop-number-preserved-then-not-is_in_one : goal.loop-number-preserved-then-not-is_in_one
loop-number-preserved-then-not-is_in_one c = (tt, tt)

pub loop-number-preserved : goal.loop-number-preserved
loop-number-preserved c = (tt, tt)
