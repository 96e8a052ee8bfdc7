use Rattle.std.proofs.Common.{[]}
use Rattle.fc_map.specs.BulkLoad.{IsLoaded}
use Rattle.fc_map.proofs.OpenFacts.{IsOpenSoFar}
use Rattle.fc_map.proofs.map.load_asked.BTreeMap+K+V.try_from_iterator_asked.Given as goal

abbrev pub invariant-loop-key : goal.invariant-loop-key
invariant-loop-key g l = (goal.iterator-loop-key g).can_next l.key-iterator
    × (goal.iterator-loop-key g).is_finite l.key-iterator
    × IsLoaded g.K.Ord.cmp [] l.yielded l.load
    × IsOpenSoFar g.K.Ord.cmp l.yielded l.load l.fn.asked.requests l.asked.requests
