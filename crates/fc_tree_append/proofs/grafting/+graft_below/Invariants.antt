use Rattle.fc_tree_append.proofs.grafting.+graft_below.Given as goal

abbrev pub decreases-graft_below : goal.decreases-graft_below
decreases-graft_below g l = l.depth
