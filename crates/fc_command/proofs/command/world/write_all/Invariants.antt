use Rattle.std.proofs.Common.{◌≡◌, ◌++◌, ◌-◌, min, length, map}
use Rattle.std.specs.Vec.Iter.{into_iter_items}
use Rattle.fc_base.specs.Ranges.{bound_now, within}
use Rattle.fc_map.specs.Entries.{entries}
use Rattle.fc_map.specs.Writing.{wrote_all}
use Rattle.fc_map.specs.Stretches.{range_map_ref, stretch}
use Rattle.fc_command.specs.Writing.{flagged, rewritten}
use Rattle.fc_command.proofs.command.world.write_all.Given as goal

-- the writes that are left, from where the walk is, give what all of them give; each place lent was written
abbrev pub invariant-loop-end : goal.invariant-loop-end
invariant-loop-end g l =
    let places = length (within g.K.Ord.cmp (bound_now l.fn.bounds.0) (bound_now l.fn.bounds.1) (entries l.fn.map)) in
    record {
      same_map : (range_map_ref l.walk).ghost_name ≡ (range_map_ref l.initial.walk).ghost_name;
      all : l.fn.writes.items ≡ l.yielded ++ into_iter_items l.end-iterator;
      wrote : (wrote_all (stretch l.walk) (map flagged (into_iter_items l.end-iterator))).list
          ≡ rewritten g.K.Ord.cmp (bound_now l.fn.bounds.0) (bound_now l.fn.bounds.1) (entries l.fn.map) l.fn.writes.items;
      left : (stretch l.walk).back - (stretch l.walk).front ≡ places - length l.yielded;
      count : l.count ≡ min (length l.yielded) places;
    }
