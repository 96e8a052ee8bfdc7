use Rattle.std.proofs.Common.{[], length, refl, rules, arith, ap}
use Rattle.fc_tree_node.proofs.Pairs.{leaf_children}
use Rattle.fc_tree_search.proofs.SearchFacts.{child_there}
use Rattle.fc_tree_cursor.proofs.GapFacts.{around_gap, around_child, goes_here, goes_below, step_down, ends_here, ends_below}
use Rattle.fc_tree_cursor.proofs.Turns.{turn_first, child_ascends, before_at}
use Rattle.fc_tree_cursor.proofs.ends.+push_cut.Goals as goal

pub returns-then-is_leaf-clause-gap : goal.returns-then-is_leaf-clause-gap
returns-then-is_leaf-clause-gap g t c =
    let l = c.requires.levels in
    let n = c.args.node.now in
    let i = c.args.place in
    let none = ap length (leaf_children n (c.if-is_leaf.ensures.0 refl)) in
    let a = before_at g.met.Q.Query.fits g.Q.Query.sought l.0 n l.1 c.requires.order i [] (around_gap l.0 n i l.1 (omega (arith, none)) c.requires.place.within)
    c.args.cut.now c.requires.place in
    goes_here c.args.gap.now c.push.new.self i l.0 n _ _ l.1 (omega (arith, none)) c.requires.place.within c.push.ensures a refl

pub returns-then-is_leaf-clause-leaf : goal.returns-then-is_leaf-clause-leaf
returns-then-is_leaf-clause-leaf g t c = ends_here c.args.gap.now c.push.new.self c.args.place c.args.node.now c.push.ensures

pub push_cut-requires : goal.push_cut-requires
push_cut-requires g t c κs within =
    let l = c.requires.levels in
    let k = child_there l.0 c.args.node.now c.args.place l.1 c.if-is_leaf.ensures.1 c.requires.place.within in
    let d = step_down c.args.gap.now _ _ c.args.node.now _ l k c.push.ensures c.child-child.ensures in
    let ordered = child_ascends g.K.Ord.cmp l.0 _ _ _ l.1 k c.child-child.ensures c.requires.order in
    (omega arith, (search rules, (search rules, (search rules, (search rules, (d.0, (ordered, turn_first c.place_in.ensures)))))))

pub returns-clause-gap : goal.returns-clause-gap
returns-clause-gap g t c =
    let l = c.requires.levels in
    let n = c.args.node.now in
    let i = c.args.place in
    let k = child_there l.0 n i l.1 c.if-is_leaf.ensures.1 c.requires.place.within in
    let a = before_at g.met.Q.Query.fits g.Q.Query.sought l.0 n l.1 c.requires.order i _ (around_child l.0 n _ i l.1 k c.child-child.ensures) c.args.cut.now
    c.requires.place in
    goes_below c.args.gap.now c.push.new.self c.push_cut.new.gap i l.0 n c.child-child.result.now _ _ l.1 k c.push.ensures c.child-child.ensures
    c.push_cut.ensures.gap a

pub returns-clause-leaf : goal.returns-clause-leaf
returns-clause-leaf g t c =
    let l = c.requires.levels in
    ends_below c.args.gap.now c.push.new.self c.push_cut.new.gap c.args.place _ c.args.node.now c.child-child.result.now c.push_cut.result.now c.push.ensures
    c.child-child.ensures l.0 l.1 (child_there l.0 c.args.node.now c.args.place l.1 c.if-is_leaf.ensures.1 c.requires.place.within) c.push_cut.ensures.gap
    c.push_cut.ensures.leaf
