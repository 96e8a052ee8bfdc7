use Rattle.std.proofs.Common.{◌-◌, [], length, take, get_or, refl, ap, ◌∙◌, arith}
use Rattle.fc_tree_node.specs.Node.{child_at, pairs_of}
use Rattle.fc_tree_node.proofs.Gaps.{leaf_gap}
use Rattle.fc_tree_node.proofs.Lists.{length_take}
use Rattle.fc_tree_node.proofs.Pairs.{leaf_children}
use Rattle.fc_tree_search.proofs.SearchFacts.{child_there}
use Rattle.fc_tree_cursor.proofs.GapFacts.{around_child, goes_here, goes_below, own_count, step_down}
use Rattle.fc_tree_cursor.proofs.Places.{parted}
use Rattle.fc_tree_cursor.proofs.beside.next_back_leaf_edge.Goals as goal

pub returns-then-is_leaf : goal.returns-then-is_leaf
returns-then-is_leaf g c =
    let l = c.requires.levels in
    let n = c.args.node.now in
    let p = c.args.path.now in
    let last = length p - 1 in
    let i = get_or p last 0 in
    let is = parted p last (omega (arith, c.requires.some)) in
    let leaf = c.if-is_leaf.ensures.0 refl in
    let none = ap length (leaf_children n leaf) in
    let own = c.requires.own in
    goes_here (take last p) p i l.0 n _ 0 l.1 (omega (arith, none)) (omega (arith, own)) is (own_count l.0 n i [] l.1 own (leaf_gap n i leaf)) refl

pub last_leaf_edge-requires : goal.last_leaf_edge-requires
last_leaf_edge-requires g c =
    let l = c.requires.levels in
    let n = c.args.node.now in
    let p = c.args.path.now in
    let last = length p - 1 in
    let i = get_or p last 0 in
    let is = parted p last (omega (arith, c.requires.some)) in
    let own = c.requires.own in
    let there = child_there l.0 n i l.1 c.if-is_leaf.ensures.1 (omega (arith, own)) in
    let lead = length_take last p (omega arith) in
    let fits = l.2 in
    let some = c.requires.some in
    let child = c.child.ensures ∙ ap (child_at n) (c.step-place.ensures ∙ ap (λ k. get_or p (k - 1) 0) c.len.ensures.value) in
    record { levels = (step_down (take last p) p i n c.child.result.now (l.0, l.1, omega (arith, lead, fits, some)) there is child).0 }

pub returns : goal.returns
returns g c =
    let l = c.requires.levels in
    let n = c.args.node.now in
    let p = c.args.path.now in
    let last = length p - 1 in
    let i = get_or p last 0 in
    let is = parted p last (omega (arith, c.requires.some)) in
    let own = c.requires.own in
    let there = child_there l.0 n i l.1 c.if-is_leaf.ensures.1 (omega (arith, own)) in
    let child = c.child.ensures ∙ ap (child_at n) (c.step-place.ensures ∙ ap (λ k. get_or p (k - 1) 0) c.len.ensures.value) in
    goes_below (take last p) p c.last_leaf_edge.new.gap i l.0 n c.child.result.now _ _ l.1 there is child c.last_leaf_edge.ensures.gap
    (own_count l.0 n i (pairs_of c.child.result.now) l.1 own (around_child l.0 n c.child.result.now i l.1 there child))
