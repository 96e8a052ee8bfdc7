use Rattle.std.proofs.Common.{◌≡◌, length}
use Rattle.std.specs.Cmp.Lexicographic.{slice_cmp}
use Rattle.fc_map_iter.specs.Compare.{pair_cmp}
use Rattle.fc_map_iter.proofs.compare.order.Given as goal

abbrev pub invariant-pairs : goal.invariant-pairs
invariant-pairs g l = slice_cmp (pair_cmp g.K.Ord.cmp g.V.Ord.cmp) l.mine l.theirs
    ≡ slice_cmp (pair_cmp g.K.Ord.cmp g.V.Ord.cmp) l.initial.mine l.initial.theirs

abbrev pub decreases-pairs : goal.decreases-pairs
decreases-pairs g l = length l.mine
