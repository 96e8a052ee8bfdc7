use Rattle.fc_set.specs.Items.{items}
use Rattle.fc_set.specs.Operations.{difference, symmetric_difference, intersection, union}
use Rattle.fc_command.proofs.OperationFacts.{exact_items}
use Rattle.fc_command.proofs.command.operations.kept.Goals as goal

pub returns-in-Difference-clause-made : goal.returns-in-Difference-clause-made
returns-in-Difference-clause-made g c = rw c.in-Difference.is (exact_items g.K.TryClone.same c.requires.same c.sub.result
    (difference g.K.Ord.cmp (items c.args.set.now) (items c.args.other.now)) c.sub.ensures.copied)

pub returns-in-Difference-clause-error : goal.returns-in-Difference-clause-error
returns-in-Difference-clause-error g c = rw c.in-Difference.is c.sub.ensures.error

pub returns-in-SymmetricDifference-clause-made : goal.returns-in-SymmetricDifference-clause-made
returns-in-SymmetricDifference-clause-made g c = rw c.in-SymmetricDifference.is
    (exact_items g.K.TryClone.same c.requires.same c.bitxor.result (symmetric_difference g.K.Ord.cmp (items c.args.set.now) (items c.args.other.now))
    c.bitxor.ensures.copied)

pub returns-in-SymmetricDifference-clause-error : goal.returns-in-SymmetricDifference-clause-error
returns-in-SymmetricDifference-clause-error g c = rw c.in-SymmetricDifference.is c.bitxor.ensures.error

pub returns-in-Intersection-clause-made : goal.returns-in-Intersection-clause-made
returns-in-Intersection-clause-made g c = rw c.in-Intersection.is (exact_items g.K.TryClone.same c.requires.same c.bitand.result
    (intersection g.K.Ord.cmp (items c.args.set.now) (items c.args.other.now)) c.bitand.ensures.copied)

pub returns-in-Intersection-clause-error : goal.returns-in-Intersection-clause-error
returns-in-Intersection-clause-error g c = rw c.in-Intersection.is c.bitand.ensures.error

pub returns-in-Union-clause-made : goal.returns-in-Union-clause-made
returns-in-Union-clause-made g c = rw c.in-Union.is (exact_items g.K.TryClone.same c.requires.same c.bitor.result
    (union g.K.Ord.cmp (items c.args.set.now) (items c.args.other.now)) c.bitor.ensures.copied)

pub returns-in-Union-clause-error : goal.returns-in-Union-clause-error
returns-in-Union-clause-error g c = rw c.in-Union.is c.bitor.ensures.error
