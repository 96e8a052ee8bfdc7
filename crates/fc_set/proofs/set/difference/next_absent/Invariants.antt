use Rattle.std.proofs.Common.{length}
use Rattle.fc_set.specs.Items.{items}
use Rattle.fc_set.specs.Operations.{difference}
use Rattle.fc_set.proofs.StepFacts.{IsSought}
use Rattle.fc_set.proofs.set.difference.next_absent.Given as goal

abbrev pub invariant-ours : goal.invariant-ours
invariant-ours g l = IsSought g.T.Ord.cmp (λ s. difference g.T.Ord.cmp s (items l.other)) l.ours l.fn.ours

abbrev pub decreases-ours : goal.decreases-ours
decreases-ours g l = length l.ours
