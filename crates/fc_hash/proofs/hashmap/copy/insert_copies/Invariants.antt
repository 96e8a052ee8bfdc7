use Rattle.std.proofs.Common.{◌≡◌, List, ◌++◌}
use Rattle.std.specs.List.{AllZip}
use Rattle.std.specs.List.Sorted.{IsPermutation}
use Rattle.fc_hash.proofs.hashmap.copy.insert_copies.Given as goal

-- The map has the copies of the pairs that were walked over.
abbrev pub invariant-pairs : goal.invariant-pairs
invariant-pairs g l =
    (done copies : List (g.row.K.Denot × g.row.V.Denot)) × (l.initial.walk ≡ done ++ l.walk)
    × AllZip (λ p q. g.K.TryClone.same p.0 q.0 × g.V.TryClone.same p.1 q.1) done copies × IsPermutation copies l.made.pairs
