use Rattle.std.proofs.Common.{◌∷◌, length}
use Rattle.fc_set.proofs.StepFacts.{IsApart}
use Rattle.fc_set.proofs.set.difference.next_apart.Given as goal

abbrev pub invariant-theirs : goal.invariant-theirs
invariant-theirs g l = IsApart g.T.Ord.cmp (l.item ∷ l.ours) l.theirs l.fn.ours l.fn.theirs

abbrev pub decreases-theirs : goal.decreases-theirs
decreases-theirs g l = length l.theirs
