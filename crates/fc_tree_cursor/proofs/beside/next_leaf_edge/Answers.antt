use Rattle.std.proofs.Common.{◌+◌, ◌-◌, length, take, get_or, refl, ap, ◌∙◌, arith}
use Rattle.std.specs.Prelude.{slice_set}
use Rattle.fc_tree_node.proofs.Lists.{length_take}
use Rattle.fc_tree_node.proofs.Pairs.{leaf_children}
use Rattle.fc_tree_cursor.proofs.GapFacts.{goes_here, goes_below, step_down, ends_below}
use Rattle.fc_tree_cursor.proofs.Places.{IsNextEdge, next_edge}
use Rattle.fc_tree_cursor.proofs.beside.next_leaf_edge.Given as given
use Rattle.fc_tree_cursor.proofs.beside.next_leaf_edge.Goals as goal
use Rattle.fc_tree_cursor.proofs.beside.next_leaf_edge.Goals.{After-set}

-- the path's last step leads over the pair
further : (g : given.Over) (c : After-set g) → IsNextEdge c.args.path.now c.set.new.self c.args.node.now c.step-place.result
further g c =
    let l = c.requires.levels in
    let p = c.args.path.now in
    let long = c.len-last.ensures.value in
    next_edge p c.set.new.self l.0 c.step-place.result c.args.node.now l.1 c.requires.some (c.step-place.ensures ∙ ap (λ k. get_or p (k - 1) 0) long)
    c.requires.own (c.set.ensures ∙ ap (λ k. slice_set p (k - 1) (c.step-place.result + 1)) long)

pub returns-then-is_leaf-clause-gap : goal.returns-then-is_leaf-clause-gap
returns-then-is_leaf-clause-gap g c =
    let l = c.requires.levels in
    let n = c.args.node.now in
    let p = c.args.path.now in
    let f = further g (goal.at.returns-then-is_leaf-clause-gap g c).After-set in
    let own = f.own in
    let count = f.count in
    let none = ap length (leaf_children n (c.if-is_leaf.ensures.0 refl)) in
    goes_here (take (length p - 1) p) c.set.new.self (c.step-place.result + 1) l.0 n _ 0 l.1 (omega (arith, none)) (omega (arith, own)) f.is
    (omega (arith, count)) refl

pub first_leaf_edge-requires : goal.first_leaf_edge-requires
first_leaf_edge-requires g c =
    let l = c.requires.levels in
    let n = c.args.node.now in
    let p = c.args.path.now in
    let f = further g (goal.at.first_leaf_edge-requires g c).After-set in
    let there = f.child c.if-is_leaf.ensures.1 in
    let lead = length_take (length p - 1) p (omega arith) in
    let fits = l.2 in
    let some = c.requires.some in
    record {
      levels = (step_down (take (length p - 1) p) c.set.new.self _ n _ (l.0, l.1, omega (arith, lead, fits, some)) there f.is c.child.ensures).0;
    }

pub returns-clause-gap : goal.returns-clause-gap
returns-clause-gap g c =
    let l = c.requires.levels in
    let n = c.args.node.now in
    let p = c.args.path.now in
    let f = further g (goal.at.returns-clause-gap g c).After-set in
    let count = f.count in
    goes_below (take (length p - 1) p) c.set.new.self c.first_leaf_edge.new.gap (c.step-place.result + 1) l.0 n c.child.result.now 0 _ l.1
    (f.child c.if-is_leaf.ensures.1) f.is c.child.ensures c.first_leaf_edge.ensures.gap (omega (arith, count))

pub returns-clause-leaf : goal.returns-clause-leaf
returns-clause-leaf g c =
    let l = c.requires.levels in
    let n = c.args.node.now in
    let p = c.args.path.now in
    let f = further g (goal.at.returns-clause-leaf g c).After-set in
    ends_below (take (length p - 1) p) c.set.new.self c.first_leaf_edge.new.gap
    (c.step-place.result + 1) 0 n c.child.result.now c.first_leaf_edge.result.now f.is
    c.child.ensures l.0 l.1 (f.child c.if-is_leaf.ensures.1) c.first_leaf_edge.ensures.gap c.first_leaf_edge.ensures.leaf
