use Rattle.std.proofs.Common.{◌+◌, ◌∙◌, arith, refl}
use Rattle.fc_tree_search.proofs.EndFacts.{child_of}
use Rattle.fc_tree_search.proofs.NeighbourFacts.{own_after_leaf, own_after_inner}
use Rattle.fc_tree_search.proofs.neighbours.next_after_own.Goals as goal

pub returns-then-is_leaf : goal.returns-then-is_leaf
returns-then-is_leaf g c = λ rest e.
    let l = c.requires.levels in
    c.next_after_child.ensures rest e ∙ own_after_leaf l.0 c.args.node.now c.args.place rest l.1 (c.if-is_leaf.ensures.0 refl) c.requires.place

pub returns-else-is_leaf : goal.returns-else-is_leaf
returns-else-is_leaf g c = λ rest e.
    let l = c.requires.levels in
    let w = child_of l.0 c.args.node.now (c.args.place + 1) (omega arith, l.1) c.if-is_leaf.ensures.1 (omega arith) in
    own_after_inner l.0 c.args.node.now c.child.result.now c.args.place c.first_pair.result.now rest l.1 w.inner c.requires.place c.child.ensures
    c.first_pair.ensures
