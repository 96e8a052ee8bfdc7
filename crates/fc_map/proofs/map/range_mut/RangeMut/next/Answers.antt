use Rattle.std.proofs.Common.{refl, ap}
use Rattle.fc_map.specs.Entries.{entries}
use Rattle.fc_map.specs.Lends.{branch}
use Rattle.fc_tree_cursor.specs.Leaf.{advanced}
use Rattle.fc_map.specs.Stretches.{stretch}
use Rattle.fc_map.proofs.EndFacts.{ends_stay, place_on, lent_first}
use Rattle.fc_map.proofs.WrittenFacts.{gap_stays}
use Rattle.fc_map.proofs.map.range_mut.RangeMut.next.Goals as goal

pub invariant_of-self-lent : goal.invariant_of-self-lent
invariant_of-self-lent g c = λ w.
    let n = c.step.new.self in
    let m = n.map.now in
    let path = branch c.as_slice.result.now c.in-Some.way c.in-Some.place in
    (ends_stay m path (advanced n.front n.gone) n.back w n.ends, ((gap_stays m path (advanced n.front n.full) w n.run_is).0, tt))

pub returns-in-Some : goal.returns-in-Some
returns-in-Some g c =
    let n = c.step.new.self in
    let e = c.in-Some.ensures in
    let s = e.step in
    let list = ap (λ m. entries m.now) e.same_map in
    let place = place_on n.map.now n.front _ _ _ _ c.as_slice.ensures.value s.1 s.2 in
    let lent = lent_first n.map.now _ (advanced n.front n.gone) n.back _ (stretch c.args.self.now) c.value_at.ensures.sound n.ends list place s.4 s.5
    c.value_at.ensures.value in
    ((refl, (λ w. (ap (λ m. m.ghost_name) e.same_map, lent.0 w)), tt), record { writes_back = tt; value = (s.3, lent.1) })
