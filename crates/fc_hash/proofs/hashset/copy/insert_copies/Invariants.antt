use Rattle.std.proofs.Common.{◌≡◌, List, ◌++◌}
use Rattle.std.specs.List.{AllZip}
use Rattle.std.specs.List.Sorted.{IsPermutation}
use Rattle.fc_hash.proofs.hashset.copy.insert_copies.Given as goal

-- The set has the copies of the items that were walked over.
abbrev pub invariant-items : goal.invariant-items
invariant-items g l =
    (done copies : List g.row.T.Denot) × (l.initial.walk ≡ done ++ l.walk) × AllZip g.T.TryClone.same done copies × IsPermutation copies l.made.items
