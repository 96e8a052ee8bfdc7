use Rattle.std.proofs.Common.{ℕ, ◌<◌, [], length, refl, rules, arith, sym, subst, ap, ◌∙◌, length-append}
use Rattle.fc_tree_node.specs.Node.{children_of, IsLevelled}
use Rattle.fc_tree_node.proofs.Gaps.{step_levels}
use Rattle.fc_tree_node.proofs.Pairs.{leaf_children}
use Rattle.fc_tree_search.proofs.SearchFacts.{child_there}
use Rattle.fc_tree_cursor.specs.Gap.{GoesOn}
use Rattle.fc_tree_cursor.proofs.GapFacts.{around_gap, around_child, goes_here, goes_below, ends_here, ends_below}
use Rattle.fc_tree_cursor.proofs.Turns.{turn_first, child_ascends, before_at, amid_parted, both_at}
use Rattle.fc_tree_cursor.proofs.ends.+push_both.Given as given
use Rattle.fc_tree_cursor.proofs.ends.+push_both.Goals as goal
use Rattle.fc_tree_cursor.proofs.ends.+push_both.Goals.{Else-is_leaf}

-- below the node there is a child where both cuts are
has_child : (g : given.Over) (t : ℕ) (c : Else-is_leaf g t) → c.place_in-start.result < length (children_of c.args.node.now)
has_child g t c =
    let l = c.requires.levels in
    child_there l.0 c.args.node.now c.place_in-start.result l.1 c.if-is_leaf.ensures.1 (turn_first c.place_in-start.ensures).within

pub returns-then-start-stop-clause-back : goal.returns-then-start-stop-clause-back
returns-then-start-stop-clause-back g t c =
    let l = c.requires.levels in
    let n = c.args.node.now in
    let e = amid_parted g.met.Q.Query.fits g.Q.Query.sought l.0 n l.1 c.requires.order c.args.lo.now c.args.hi.now _ _ c.if-start-stop.true
    (turn_first c.place_in-start.ensures) c.place_in-stop.ensures in
    subst (GoesOn c.args.back.now c.push_cut.new.gap n) e c.push_cut.ensures.gap

pub push_both-requires : goal.push_both-requires
push_both-requires g t c κs within =
    let l = c.requires.levels in
    let k = has_child g t (goal.at.push_both-requires g t c).Else-is_leaf in
    let s = step_levels l.0 c.args.node.now c.place_in-start.result l.1 k in
    let p = ap length c.push.ensures ∙ length-append c.args.front.now _ in
    let q = ap length c.push-2.ensures ∙ length-append c.args.back.now _ in
    let ordered = child_ascends g.K.Ord.cmp l.0 _ _ _ l.1 k c.child.ensures c.requires.order in
    let levels = subst (IsLevelled s.0) (sym c.child.ensures) s.2 in
    (omega arith, (search rules, (search rules, (search rules, (search rules, ((s.0, levels, omega arith, omega arith), ordered))))))

pub returns-clause-front : goal.returns-clause-front
returns-clause-front g t c =
    let l = c.requires.levels in
    let n = c.args.node.now in
    let i = c.place_in-start.result in
    let k = has_child g t (goal.at.returns-clause-front g t c).Else-is_leaf in
    goes_below c.args.front.now c.push.new.self c.push_both.new.front i l.0 n c.child.result.now _ _ l.1 k c.push.ensures c.child.ensures
    c.push_both.ensures.front
    (before_at g.met.Q.Query.fits g.Q.Query.sought l.0 n l.1 c.requires.order i _ (around_child l.0 n _ i l.1 k c.child.ensures) c.args.lo.now
    (turn_first c.place_in-start.ensures))

pub returns-clause-back : goal.returns-clause-back
returns-clause-back g t c =
    let l = c.requires.levels in
    let n = c.args.node.now in
    let i = c.place_in-start.result in
    let k = has_child g t (goal.at.returns-clause-back g t c).Else-is_leaf in
    let e = both_at g.met.Q.Query.fits g.Q.Query.sought l.0 n l.1 c.requires.order i _ (around_child l.0 n _ i l.1 k c.child.ensures) c.args.lo.now
    c.args.hi.now _ c.place_in-start.ensures c.place_in-stop.ensures (omega (arith, c.if-start-stop.false)) in
    goes_below c.args.back.now c.push-2.new.self c.push_both.new.back i l.0 n c.child.result.now _ _ l.1 k c.push-2.ensures c.child.ensures
    c.push_both.ensures.back e

pub returns-clause-leaf : goal.returns-clause-leaf
returns-clause-leaf g t c =
    let l = c.requires.levels in
    let k = has_child g t (goal.at.returns-clause-leaf g t c).Else-is_leaf in
    ends_below c.args.front.now c.push.new.self c.push_both.new.front c.place_in-start.result _ c.args.node.now c.child.result.now c.push_both.result.now
    c.push.ensures c.child.ensures l.0 l.1 k c.push_both.ensures.front c.push_both.ensures.leaf

pub returns-then-is_leaf-clause-front : goal.returns-then-is_leaf-clause-front
returns-then-is_leaf-clause-front g t c =
    let l = c.requires.levels in
    let n = c.args.node.now in
    let i = c.place_in-start.result in
    let r = turn_first c.place_in-start.ensures in
    let none = ap length (leaf_children c.args.node.now (c.if-is_leaf.ensures.0 refl)) in
    let a = before_at g.met.Q.Query.fits g.Q.Query.sought l.0 n l.1 c.requires.order i [] (around_gap l.0 n i l.1 (omega (arith, none)) r.within) c.args.lo.now
    r in
    goes_here c.args.front.now c.push.new.self i l.0 n _ _ l.1 (omega arith) r.within c.push.ensures a refl

pub returns-then-is_leaf-clause-back : goal.returns-then-is_leaf-clause-back
returns-then-is_leaf-clause-back g t c =
    let l = c.requires.levels in
    let n = c.args.node.now in
    let i = c.place_in-start.result in
    let r = turn_first c.place_in-start.ensures in
    let none = ap length (leaf_children c.args.node.now (c.if-is_leaf.ensures.0 refl)) in
    let a = both_at g.met.Q.Query.fits g.Q.Query.sought l.0 n l.1 c.requires.order i [] (around_gap l.0 n i l.1 (omega (arith, none)) r.within) c.args.lo.now
    c.args.hi.now _ c.place_in-start.ensures c.place_in-stop.ensures (omega (arith, c.if-start-stop.false)) in
    goes_here c.args.back.now c.push-2.new.self i l.0 n _ _ l.1 (omega arith) r.within c.push-2.ensures a refl

pub returns-then-is_leaf-clause-leaf : goal.returns-then-is_leaf-clause-leaf
returns-then-is_leaf-clause-leaf g t c = ends_here c.args.front.now c.push.new.self c.place_in-start.result c.args.node.now c.push.ensures
