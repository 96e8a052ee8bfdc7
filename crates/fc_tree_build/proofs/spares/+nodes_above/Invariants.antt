use Rattle.fc_tree_build.proofs.spares.+nodes_above.Given as goal

abbrev pub decreases-nodes_above : goal.decreases-nodes_above
decreases-nodes_above l = l.subtrees
