use Rattle.fc_base.specs.Ascending.{IsAscending}
use Rattle.fc_tree_copy.specs.Copy.{AreSame}
use Rattle.fc_tree_copy.proofs.CloneFacts.{IsClonedSoFar}
use Rattle.fc_tree_copy.proofs.clones.try_cloned.Given as goal

abbrev pub invariant-loop-key : goal.invariant-loop-key
invariant-loop-key g l = (goal.iterator-loop-key g).can_next l.key-iterator
    × (goal.iterator-loop-key g).is_finite l.key-iterator
    × IsAscending g.K.Ord.cmp l.clones.pairs
    × IsClonedSoFar (AreSame g.K.Clone.is_clone g.V.Clone.is_clone) l.fn.pairs l.key-iterator l.clones.pairs
