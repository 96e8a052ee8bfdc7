use Rattle.fc_tree_insertion.proofs.reservation.+levels_over.Given as goal

abbrev pub decreases-levels_over : goal.decreases-levels_over
decreases-levels_over l = l.pairs
