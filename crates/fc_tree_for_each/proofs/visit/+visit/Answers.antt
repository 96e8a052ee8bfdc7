use Rattle.std.proofs.Common.{ℕ, rules, arith, refl, subst, sym}
use Rattle.std.proofs.lemmas.Bool.{false≢true}
use Rattle.fc_tree_node.proofs.Lent.{replaced}
use Rattle.fc_tree_cursor.specs.Ends.{IsEnd}
use Rattle.fc_tree_cursor.proofs.PathEnds.{order_open}
use Rattle.fc_tree_for_each.specs.Visits.{CalledAtPair}
use Rattle.fc_tree_for_each.proofs.Walking.{IsLeafPart, leaf_part, begun, child_room, lent, at_next, at_last, at_end}
use Rattle.fc_tree_for_each.proofs.visit.+visit.Given as given
use Rattle.fc_tree_for_each.proofs.visit.+visit.Goals as goal
use Rattle.fc_tree_for_each.proofs.visit.+visit.Goals.{Then-is_leaf}

of_leaf : (g : given.Over) (t : ℕ) (c : Then-is_leaf g t)
    → IsLeafPart c.args.node.now c.args.from.now c.args.to.now c.split_step-start.result.0 c.split_step-end.result.0
of_leaf g t c =
    leaf_part c.args.node.now c.args.from.now c.args.to.now _ _ c.len.result c.requires.ends (c.if-is_leaf.ensures.0 (search rules)) c.requires.order
    c.split_step-start.ensures.first c.split_step-end.ensures.first c.len.ensures.value

pub visit_leaf-requires : goal.visit_leaf-requires
visit_leaf-requires g t c = let s = of_leaf g t (goal.at.visit_leaf-requires g t c).Then-is_leaf in
    record { leaf = s.levels; order = s.order; callable = c.requires.callable }

pub returns-then-is_leaf-clause-visited : goal.returns-then-is_leaf-clause-visited
returns-then-is_leaf-clause-visited g t c =
    let s = of_leaf g t (goal.at.returns-then-is_leaf-clause-visited g t c).Then-is_leaf in
    rw (s.front, s.back) at c.visit_leaf.ensures.visited

pub loop-i-init : goal.loop-i-init
loop-i-init g t c = record {
  callable = c.requires.callable;
  at = begun (CalledAtPair g.F.FnMut) c.args.node.now c.args.f.now c.args.from.now c.args.to.now _ _ c.len.result _ _ c.requires.ends
      (λ l. false≢true (c.if-is_leaf.ensures.1 l)) c.requires.order c.split_step-start.ensures.first c.split_step-start.ensures.rest
      c.split_step-end.ensures.first c.split_step-end.ensures.rest c.len.ensures.value;
}

pub child_in-requires : goal.child_in-requires
child_in-requires g t c = (child_room (CalledAtPair g.F.FnMut) c.loop-i.invariant.at).0

pub visit-requires : goal.visit-requires
visit-requires g t c κs within =
    let x = lent (CalledAtPair g.F.FnMut) c.loop-i.invariant.at c.child_in.ensures.value in
    let fewer = x.fewer in (
      omega (arith, fewer, c.decreases),
      (
        search rules,
        (
          search rules,
          (
            search rules,
            (search rules, ((c.loop-i.invariant.at.h, x.levels, x.start, (tt, λ q. absurd (omega arith))), (order_open _, c.loop-i.invariant.callable))),
          ),
        ),
      ),
    )

pub loop-i-preserved : goal.loop-i-preserved
loop-i-preserved g t c =
    let R = CalledAtPair g.F.FnMut in
    let at = c.loop-i.invariant.at in
    let v = c.visit_own.ensures.visited in
    let next = at_next R c.visit.new.node at c.loop-i-test.true (lent R at c.child_in.ensures.value) c.visit.ensures.visited c.visit.ensures.same v.2 v.3 in
    record { callable = c.visit_own.ensures.callable; at = rw v.4 next }

pub child_in-requires-2 : goal.child_in-requires-2
child_in-requires-2 g t c =
    let R = CalledAtPair g.F.FnMut in
    (child_room R (at_last R c.loop-i.invariant.at (omega (arith, c.loop-i-test.false)))).0

pub visit-requires-2 : goal.visit-requires-2
visit-requires-2 g t c κs within =
    let R = CalledAtPair g.F.FnMut in
    let at = at_last R c.loop-i.invariant.at (omega (arith, c.loop-i-test.false)) in
    let x = lent R at c.child_in-2.ensures.value in
    let fewer = x.fewer in
    let ends = subst (IsEnd at.h c.split_step-end.result.1.now) (sym x.bare_is) at.stop in (
      omega (arith, fewer, c.decreases),
      (
        search rules,
        (
          search rules,
          (
            search rules,
            (search rules, ((at.h, x.levels, x.start, ends), (at.order refl, c.loop-i.invariant.callable))),
          ),
        ),
      ),
    )

pub returns : goal.returns
returns g t c =
    let R = CalledAtPair g.F.FnMut in
    let v = c.visit-2.ensures in
    let at = at_last R c.loop-i.invariant.at (omega (arith, c.loop-i-test.false)) in
    let e = at_end R c.visit-2.new.node at refl (lent R at c.child_in-2.ensures.value) v.visited v.same in
    record { callable = v.callable; same = e.0; visited = e.1 }

pub visit_own-requires-clause-inside : goal.visit_own-requires-clause-inside
visit_own-requires-clause-inside g t c =
    let at = c.loop-i.invariant.at in
    omega (arith, (child_room (CalledAtPair g.F.FnMut) at).2, (replaced c.loop-i.node c.loop-i.i c.visit.new.node).size, at.last, c.loop-i-test.true)
