use Rattle.std.proofs.Common.{◌≡◌, length}
use Rattle.fc_set.specs.Operations.{symmetric_difference}
use Rattle.fc_set.proofs.StepFacts.{BothAlike}
use Rattle.fc_set.proofs.set.symmetric_difference.SymmetricDifference.next.Given as goal

abbrev pub invariant-pairs : goal.invariant-pairs
invariant-pairs g l =
    (symmetric_difference g.T.Ord.cmp l.initial.self-inside.sides.left l.initial.self-inside.sides.right
    ≡ symmetric_difference g.T.Ord.cmp l.self-inside.sides.left l.self-inside.sides.right)
    × BothAlike g.T.Ord.cmp l.self-inside.sides.left l.self-inside.sides.right l.initial.self-inside.sides.left l.initial.self-inside.sides.right

abbrev pub decreases-pairs : goal.decreases-pairs
decreases-pairs g l = length l.self-inside.sides.left
