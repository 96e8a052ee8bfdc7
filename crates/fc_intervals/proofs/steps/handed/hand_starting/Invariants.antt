use Rattle.std.proofs.Common.{length}
use denote.Param.Always.{always_mut}
use Rattle.fc_map.specs.Entries.{entries}
use Rattle.fc_intervals.specs.Handed.{GivenStretch}
use Rattle.fc_intervals.proofs.Handed.{AreHanded, inside}
use Rattle.fc_intervals.proofs.steps.handed.hand_starting.Given as goal

abbrev pub invariant-stretches : goal.invariant-stretches
invariant-stretches g l = record {
  callable : always_mut g.F.FnMut l.f;
  handed : AreHanded g.K.Ord.cmp l.from l.to (GivenStretch g.F.FnMut) l.initial.f l.f (entries l.initial.map) (entries l.map);
}

abbrev pub decreases-stretches : goal.decreases-stretches
decreases-stretches g l = length (inside g.K.Ord.cmp l.from l.to (entries l.map))
