use Rattle.std.proofs.Common.{length, ap, arith}
use Rattle.fc_tree_drain.proofs.LeafFronts.{has_leaf, kept_block, open_block}
use Rattle.fc_tree_drain.proofs.leaf_front.LeafFront.next_in_leaf.Goals as goal

pub invariant_of-self : goal.invariant_of-self
invariant_of-self g c =
    let i = c.self.invariant in
    let one = ap length c.take_first.ensures.pairs in
    (i.0, i.1, has_leaf _ c.self.inside.nodes c.take_first.ensures.kept, omega arith)

pub returns-clause-blocks : goal.returns-clause-blocks
returns-clause-blocks g c =
    let view = ap (λ f. f.blocks) c.self.view_is in
    let one = ap length c.take_first.ensures.pairs in
    let was = open_block c.self.inside.run (omega (arith, one)) in
    let now = kept_block _ c.take_first.ensures.kept in
    omega (arith, view, was, now)
