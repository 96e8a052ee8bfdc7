use Rattle.std.proofs.Common.{◌∙◌, arith, refl}
use Rattle.fc_tree_search.proofs.EndFacts.{child_of}
use Rattle.fc_tree_search.proofs.NeighbourFacts.{own_before_leaf, own_before_inner}
use Rattle.fc_tree_search.proofs.neighbours.last_before_own.Goals as goal

pub returns-then-is_leaf : goal.returns-then-is_leaf
returns-then-is_leaf g c = λ lead e.
    let l = c.requires.levels in
    c.last_before_child.ensures lead e ∙ own_before_leaf l.0 c.args.node.now c.args.place lead l.1 (c.if-is_leaf.ensures.0 refl) c.requires.place

pub returns-else-is_leaf : goal.returns-else-is_leaf
returns-else-is_leaf g c = λ lead e.
    let l = c.requires.levels in
    let w = child_of l.0 c.args.node.now (c.args.place) (omega arith, l.1) c.if-is_leaf.ensures.1 (omega arith) in
    own_before_inner l.0 c.args.node.now c.child.result.now c.args.place c.last_pair.result.now lead l.1 w.inner c.requires.place c.child.ensures
    c.last_pair.ensures
