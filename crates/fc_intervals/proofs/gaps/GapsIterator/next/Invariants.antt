use Rattle.std.proofs.Common.{◌≡◌, length}
use Rattle.fc_intervals.specs.Steps.{uncovered}
use Rattle.fc_intervals.proofs.gaps.GapsIterator.next.Given as goal

abbrev pub invariant-stretches : goal.invariant-stretches
invariant-stretches g l =
    uncovered g.K.Ord.cmp l.self-inside.from l.self-inside.end l.self-inside.stretches
    ≡ uncovered g.K.Ord.cmp l.initial.self-inside.from l.initial.self-inside.end l.initial.self-inside.stretches

abbrev pub decreases-stretches : goal.decreases-stretches
decreases-stretches g l = length l.self-inside.stretches
