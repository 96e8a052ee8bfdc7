use Rattle.std.proofs.Common.{◌≤◌, length}
use Rattle.fc_tree_insertion.proofs.NewPairSteps.{IsFoundFrom}
use Rattle.fc_tree_insertion.proofs.steps_to_new_pair.lead_within_halves.Given as goal

abbrev pub invariant-loop-at : goal.invariant-loop-at
invariant-loop-at l = (l.at ≤ length l.fn.place) × IsFoundFrom l.fn.place l.place l.right l.whole l.at

abbrev pub decreases-loop-at : goal.decreases-loop-at
decreases-loop-at l = l.at
