use Rattle.fc_intervals.specs.InTurn.{AreGiven}
use Rattle.fc_intervals.proofs.map.IntervalMap.try_extend.Given as goal

abbrev pub invariant-items : goal.invariant-items
invariant-items g l =
    (goal.iterator-items g).can_next l.range-iterator ×
    (goal.iterator-items g).is_finite l.range-iterator ×
    AreGiven g.K.Ord.cmp g.V.TryClone.same l.yielded l.fn.self l.self
