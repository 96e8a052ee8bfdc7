use Rattle.std.proofs.Common.{◌+◌, refl, ap}
use Rattle.fc_map.specs.Entries.{entries}
use Rattle.fc_tree_cursor.specs.Leaf.{advanced}
use Rattle.fc_map.specs.Stretches.{iter_stretch}
use Rattle.fc_map.proofs.EndFacts.{ends_stay, counted_stays, lent_last}
use Rattle.fc_map.proofs.WrittenFacts.{gap_stays}
use Rattle.fc_map.proofs.map.iter_mut.IterMut.next_back.Goals as goal

pub invariant_of-self-lent : goal.invariant_of-self-lent
invariant_of-self-lent g c = λ w.
    let n = c.step_back.new.self in
    let m = n.map.now in
    let path = c.in-Some.place in
    let gap = advanced n.front n.gone in (
      ends_stay m path gap n.back w n.ends,
      (
        (gap_stays m path (advanced n.front n.full) w n.run_is).0,
        (
          counted_stays m path gap (n.base + n.gone) w n.ends.0 n.front_counted,
          (counted_stays m path n.back n.end w n.ends.1 n.back_counted, (n.within, tt)),
        ),
      ),
    )

pub returns-in-Some : goal.returns-in-Some
returns-in-Some g c =
    let n = c.step_back.new.self in
    let e = c.in-Some.ensures in
    let s = e.step in
    let list = ap (λ m. entries m.now) e.same_map in
    let lent = lent_last n.map.now _ (advanced n.front n.gone) n.back _ (iter_stretch c.args.self.now) c.value_mut.ensures.sound n.ends list s.0 s.1 s.3 s.4
    c.value_mut.ensures.value in
    ((refl, (λ w. (ap (λ m. m.ghost_name) e.same_map, lent.0 w)), tt), record { writes_back = tt; value = (s.2, lent.1) })
