use Rattle.std.proofs.Common.{◌≡◌}
use Rattle.fc_base.specs.Ranges.{bound_now}
use Rattle.fc_map.specs.Entries.{entries}
use Rattle.fc_map.specs.Stretches.{range_map_ref, stretch}
use Rattle.fc_map.specs.Writing.{starting}
use Rattle.fc_map.proofs.WritingFacts.{IsUnderWay}
use Rattle.callers_of_map.proofs.iter_mut.write_range.Given as goal

abbrev pub invariant-loop-write : goal.invariant-loop-write
invariant-loop-write g l =
    ((range_map_ref l.walk).ghost_name ≡ (range_map_ref l.initial.walk).ghost_name)
    × IsUnderWay (starting g.K.Ord.cmp (bound_now l.fn.bounds.0) (bound_now l.fn.bounds.1) (entries l.fn.map)) (stretch l.walk) l.fn.writes l.write-index
    l.count
