use Rattle.std.proofs.Common.{◌≡◌, drop}
use Rattle.fc_map.specs.Entries.{entries}
use Rattle.fc_map.specs.Stretches.{iter_map_ref, iter_stretch}
use Rattle.fc_map.specs.Writing.{wrote_all, whole}
use Rattle.callers_of_map.proofs.iter_mut.write_all.Given as goal

-- the writes that are left, from where the walk is, give what all the writes give
abbrev pub invariant-loop-write : goal.invariant-loop-write
invariant-loop-write g l =
    ((iter_map_ref l.walk).ghost_name ≡ (iter_map_ref l.initial.walk).ghost_name)
    × (wrote_all (iter_stretch l.walk) (drop l.write-index l.writes) ≡ wrote_all (whole (entries l.fn.map)) l.fn.writes)
