use Rattle.std.proofs.Common.{◌+◌, ◌∷◌, length}
use Rattle.fc_set.proofs.StepFacts.{IsCommon}
use Rattle.fc_set.proofs.set.intersection.next_common.Given as goal

abbrev pub invariant-pairs : goal.invariant-pairs
invariant-pairs g l = IsCommon g.T.Ord.cmp (l.first ∷ l.ours) (l.other ∷ l.theirs) l.fn.ours l.fn.theirs

abbrev pub decreases-pairs : goal.decreases-pairs
decreases-pairs g l = length l.ours + length l.theirs
