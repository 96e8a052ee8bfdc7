use Rattle.std.proofs.Common.{◌≡◌, List, []}
use Rattle.std.specs.Prelude.{⊤}
use Rattle.fc_map.specs.BulkLoad.{IsLoaded}
use Rattle.fc_map.proofs.OpenFacts.{IsOpenSoFar}
use Rattle.fc_set.proofs.ItemFacts.{keys}
use Rattle.fc_set.proofs.set.extend.BTreeSet+T.try_from_iterator_asked.Given as goal

-- the items so far are the keys of pairs that are put in or gathered
abbrev pub invariant-loop-item : goal.invariant-loop-item
invariant-loop-item g l = (goal.iterator-loop-item g).can_next l.item-iterator
    × (goal.iterator-loop-item g).is_finite l.item-iterator
    × ((pairs : List (g.row.T.Denot × ⊤)) × (keys pairs ≡ l.yielded) × IsLoaded g.T.Ord.cmp [] pairs l.load
    × IsOpenSoFar g.T.Ord.cmp pairs l.load l.fn.asked.requests l.asked.requests)
