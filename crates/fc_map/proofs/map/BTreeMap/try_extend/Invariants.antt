use Rattle.std.proofs.Common.{◌≡◌}
use Rattle.fc_base.specs.Extended.{extended}
use Rattle.fc_map.specs.Entries.{entries}
use Rattle.fc_map.proofs.map.BTreeMap.try_extend.Given as goal

abbrev pub invariant-loop-key : goal.invariant-loop-key
invariant-loop-key g l = (goal.iterator-loop-key g).can_next l.key-iterator
    × (goal.iterator-loop-key g).is_finite l.key-iterator
    × (entries l.self ≡ extended g.K.Ord.cmp (entries l.fn.self) l.yielded)
