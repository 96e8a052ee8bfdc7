use Rattle.std.proofs.Common.{refl, arith}
use Rattle.fc_tree_node.specs.Node.{IsSoundRoot}
use Rattle.fc_tree_removal.proofs.FewestFacts.{fewest_kept, fewest_gone}
use Rattle.fc_tree_removal.proofs.first_last.take_last.Goals as goal

pub take_empty_root-requires : goal.take_empty_root-requires
take_empty_root-requires g c =
    let h = c.requires.0 in
    let sound : IsSoundRoot h c.in-Some.root = rw c.in-Some.is at c.requires.1 in
    (_, refl, h, (c.remove_last-pair.ensures.levels h sound).0)

pub returns-clause-levels : goal.returns-clause-levels
returns-clause-levels g c h s =
    let sound : IsSoundRoot h c.in-Some.root = rw c.in-Some.is at s in
    c.take_empty_root.ensures.levels _ refl h (c.remove_last-pair.ensures.levels h sound).0

pub returns-then-len-gt0-clause-fewest : goal.returns-then-len-gt0-clause-fewest
returns-then-len-gt0-clause-fewest g c =
    fewest_kept c.args.tree.now c.in-Some.root _ c.args.count.now c.remove_last-pair.new.count c.in-Some.is
    c.remove_last-pair.ensures.levels c.remove_last-pair.ensures.fewest

pub returns-clause-fewest : goal.returns-clause-fewest
returns-clause-fewest g c h s other =
    fewest_gone c.args.tree.now c.in-Some.root _ c.args.count.now c.remove_last-pair.new.count c.in-Some.is
    c.remove_last-pair.ensures.fewest (omega arith) h s

pub returns-then-len-gt0-clause-blocks : goal.returns-then-len-gt0-clause-blocks
returns-then-len-gt0-clause-blocks g c = rw c.in-Some.is c.remove_last-pair.ensures.blocks

pub returns-clause-blocks : goal.returns-clause-blocks
returns-clause-blocks g c = rw c.in-Some.is (omega (arith, c.take_empty_root.ensures.blocks, c.remove_last-pair.ensures.blocks))
