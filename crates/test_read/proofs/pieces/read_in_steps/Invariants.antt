use Rattle.test_read.proofs.pieces.read_in_steps.Given as goal

abbrev pub decreases-loop-left : goal.decreases-loop-left
decreases-loop-left g l = l.left
