use Rattle.std.proofs.Common.{◌-◌, ◌<◌, length, ap, subst, arith}
use Rattle.fc_base.specs.Sizes.{capacity}
use Rattle.fc_map.specs.Entries.{entries}
use Rattle.fc_tree_build.proofs.GrownFacts.{if_err}
use Rattle.fc_map.proofs.EndFacts.{last_open, room_at_end}
use Rattle.fc_tree_build.proofs.OrderedFacts.{none_at}
use Rattle.fc_map.proofs.map.BTreeMap.put_last.Goals as goal

pub insert_in_room-requires : goal.insert_in_room-requires
insert_in_room-requires g c =
    let sound = rw c.self.view_is at c.self.invariant.1 in
    let gap = rw c.self.view_is at c.last_gap_in-path.ensures in
    let few = c.self.invariant.2 in
    let now = ap (λ m. length (entries m)) c.self.view_is in
    record {
      gap = last_open g.K.Ord.cmp c.args.key c.args.self.now c.last_gap_in-path.result sound gap.gap gap.back c.requires.after;
      room = room_at_end c.args.self.now c.last_gap_in-path.result (c.len-len.result - 1) sound gap.gap gap.back (omega arith)
          (subst (λ k. k < capacity) c.step.ensures c.if-step-lt-CAPACITY.true);
      fits = omega (arith, few, now);
    }

pub put_growing-requires : goal.put_growing-requires
put_growing-requires g c =
    let sound = rw c.self.view_is at c.self.invariant.1 in
    let gap = rw c.self.view_is at c.last_gap_in-path.ensures in
    record { gap = last_open g.K.Ord.cmp c.args.key c.args.self.now c.last_gap_in-path.result sound gap.gap gap.back c.requires.after }

pub returns-clause-new_key : goal.returns-clause-new_key
returns-clause-new_key g c = if_err _ (none_at g.K.Ord.cmp (entries c.args.self.now) c.args.key c.requires.after)
