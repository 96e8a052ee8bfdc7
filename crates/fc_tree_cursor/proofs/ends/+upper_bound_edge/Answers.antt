use Rattle.std.proofs.Common.{[], length, refl, rules, arith, sym, ap, ◌∙◌, append-nil}
use Rattle.std.specs.Prelude.{slice_range}
use Rattle.fc_tree_node.specs.Node.{own_pairs, pairs_of}
use Rattle.fc_tree_node.proofs.Pairs.{leaf_children, leaf_pairs}
use Rattle.fc_tree_search.proofs.SearchFacts.{child_there}
use Rattle.fc_tree_cursor.proofs.GapFacts.{around_gap, around_child, goes_here, goes_below, step_down}
use Rattle.fc_tree_cursor.proofs.Outer.{none_before, leaf_before, outer_on}
use Rattle.fc_tree_cursor.proofs.Slices.{part_inside, slice_length}
use Rattle.fc_tree_cursor.proofs.Turns.{turn_first, child_ascends, before_at}
use Rattle.fc_tree_cursor.proofs.ends.+upper_bound_edge.Goals as goal

pub returns-then-is_leaf : goal.returns-then-is_leaf
returns-then-is_leaf g t c =
    let l = c.requires.levels in
    let n = c.args.node.now in
    let i = c.place_in-place.result in
    let r = c.place_in-place.ensures in
    let le = r.within in
    let low = c.if-is_leaf.ensures.0 refl in
    let none = ap length (leaf_children n low) in
    let all = ap length (leaf_pairs n low) in
    let a = before_at g.met.Q.Query.fits g.Q.Query.sought l.0 n l.1 c.requires.order i [] (around_gap l.0 n i l.1 (omega arith) le)
    c.args.cut.now (turn_first r) in
    let before = leaf_before n i low le in
    let long = ap (λ xs. length (slice_range xs 0 i)) c.pairs.ensures ∙ slice_length (own_pairs n) 0 i le in
    record {
      gap = goes_here c.args.gap.now c.push.new.self 0 l.0 n _ 0 l.1 (omega arith) (omega arith) c.push.ensures
          (omega (arith, a, before, leaf_before n 0 low (omega arith), long)) refl;
      run = part_inside (pairs_of n) [] (own_pairs n) [] _ 0 i _ _ (leaf_pairs n low ∙ sym (append-nil _))
          (omega arith, le, ap (λ xs. slice_range xs 0 i) c.pairs.ensures) (omega arith) (omega arith);
      first = (λ f. (f, omega arith), λ p. p.0);
    }

pub upper_bound_edge-requires : goal.upper_bound_edge-requires
upper_bound_edge-requires g t c κs within =
    let l = c.requires.levels in
    let k = child_there l.0 c.args.node.now c.place_in-place.result l.1 c.if-is_leaf.ensures.1 c.place_in-place.ensures.within in
    let d = step_down c.args.gap.now _ _ c.args.node.now _ l k c.push-2.ensures c.child.ensures in (
      omega arith,
      (
        search rules,
        (
          search rules,
          (
            search rules,
            (search rules, (d.0, child_ascends g.K.Ord.cmp l.0 _ _ _ l.1 k c.child.ensures c.requires.order)),
          ),
        ),
      ),
    )

pub returns : goal.returns
returns g t c =
    let l = c.requires.levels in
    let n = c.args.node.now in
    let i = c.place_in-place.result in
    let r = c.place_in-place.ensures in
    let k = child_there l.0 n i l.1 c.if-is_leaf.ensures.1 r.within in
    let is = around_child l.0 n _ i l.1 k c.child.ensures in
    let a = before_at g.met.Q.Query.fits g.Q.Query.sought l.0 n l.1 c.requires.order i _ is c.args.cut.now (turn_first r) in
    let e = c.upper_bound_edge.ensures in
    let end = none_before n l.0 i l.1 r.within in
    let held = ap length e.run.2 ∙ slice_length (pairs_of c.child.result.now) _ _ e.run.1 in
    record {
      gap = goes_below c.args.gap.now c.push-2.new.self c.upper_bound_edge.new.gap i l.0 n _ _ _ l.1 k c.push-2.ensures c.child.ensures e.gap (omega arith);
      run = part_inside _ _ _ _ _ _ _ _ _ is e.run (omega arith) a;
      first = outer_on c.is_outer.ensures e.first (λ x. (end.1 (omega arith), omega arith)) (λ x y. let z = end.0 x in omega arith);
    }
