use Rattle.std.proofs.Common.{◌≡◌, length}
use Rattle.std.specs.Cmp.Lexicographic.{pointwise}
use Rattle.fc_map_iter.specs.Compare.{pair_eq}
use Rattle.fc_map_iter.proofs.compare.are_equal.Given as goal

abbrev pub invariant-pairs : goal.invariant-pairs
invariant-pairs g l = (length l.mine ≡ length l.theirs) × (pointwise (pair_eq g.K.PartialEq.eq g.V.PartialEq.eq) l.mine l.theirs
    ≡ pointwise (pair_eq g.K.PartialEq.eq g.V.PartialEq.eq) l.initial.mine l.initial.theirs)

abbrev pub decreases-pairs : goal.decreases-pairs
decreases-pairs g l = length l.mine
