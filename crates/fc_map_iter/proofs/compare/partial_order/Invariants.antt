use Rattle.std.proofs.Common.{◌≡◌, length}
use Rattle.std.specs.Cmp.Lexicographic.{slice_partial_cmp}
use Rattle.fc_map_iter.specs.Compare.{pair_partial_cmp}
use Rattle.fc_map_iter.proofs.compare.partial_order.Given as goal

abbrev pub invariant-pairs : goal.invariant-pairs
invariant-pairs g l = slice_partial_cmp (pair_partial_cmp g.K.PartialOrd.partial_cmp g.V.PartialOrd.partial_cmp) l.mine l.theirs
    ≡ slice_partial_cmp (pair_partial_cmp g.K.PartialOrd.partial_cmp g.V.PartialOrd.partial_cmp) l.initial.mine l.initial.theirs

abbrev pub decreases-pairs : goal.decreases-pairs
decreases-pairs g l = length l.mine
