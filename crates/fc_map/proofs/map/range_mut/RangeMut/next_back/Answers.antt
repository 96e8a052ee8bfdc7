use Rattle.std.proofs.Common.{refl, ap}
use Rattle.fc_map.specs.Entries.{entries}
use Rattle.fc_tree_cursor.specs.Leaf.{advanced}
use Rattle.fc_map.specs.Stretches.{stretch}
use Rattle.fc_map.proofs.EndFacts.{ends_stay, lent_last}
use Rattle.fc_map.proofs.WrittenFacts.{gap_stays}
use Rattle.fc_map.proofs.map.range_mut.RangeMut.next_back.Goals as goal

pub invariant_of-self-lent : goal.invariant_of-self-lent
invariant_of-self-lent g c = λ w.
    let n = c.step_back.new.self in
    let path = c.in-Some.place in
    (ends_stay n.map.now path (advanced n.front n.gone) n.back w n.ends, ((gap_stays n.map.now path (advanced n.front n.full) w n.run_is).0, tt))

pub returns-in-Some : goal.returns-in-Some
returns-in-Some g c =
    let n = c.step_back.new.self in
    let e = c.in-Some.ensures in
    let s = e.step in
    let list = ap (λ m. entries m.now) e.same_map in
    let lent = lent_last n.map.now _ (advanced n.front n.gone) n.back _ (stretch c.args.self.now) c.value_mut.ensures.sound n.ends list s.0 s.1 s.3 s.4
    c.value_mut.ensures.value in
    ((refl, (λ w. (ap (λ m. m.ghost_name) e.same_map, lent.0 w)), tt), record { writes_back = tt; value = (s.2, lent.1) })
