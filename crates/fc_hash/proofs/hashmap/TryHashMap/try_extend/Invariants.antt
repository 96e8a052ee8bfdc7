use Rattle.fc_hash.specs.Extended.{IsPutAll}
use Rattle.fc_hash.specs.Pairs.{IsMap}
use Rattle.fc_hash.proofs.hashmap.TryHashMap.try_extend.Given as goal

abbrev pub invariant-items : goal.invariant-items
invariant-items g l =
    (goal.iterator-items g).can_next l.key-iterator ×
    (goal.iterator-items g).is_finite l.key-iterator ×
    IsPutAll g.K.PartialEq.eq l.fn.self.pairs l.yielded l.self.pairs ×
    IsMap g.K.PartialEq.eq l.self.pairs
