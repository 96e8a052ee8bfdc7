use Rattle.std.proofs.Common.{length, ap, arith}
use denote.Param.{param}
use Rattle.fc_tree_drain.proofs.Sizes.{leaf_front_fits}
use Rattle.fc_tree_build.proofs.StackSizes.{builder_fits}
use Rattle.fc_tree_append.proofs.merge.next.Goals as goal

pub returns-then-in_leaf-gt0-clause-room : goal.returns-then-in_leaf-gt0-clause-room
returns-then-in_leaf-gt0-clause-room g c other few all room = let one = c.next_in_leaf.ensures.in_leaf in omega arith

pub returns-clause-room : goal.returns-clause-room
returns-clause-room g c other few all room =
    let one = ap length c.next_leaf-pair.ensures.pairs in
    omega arith

pub returns-then-in_leaf-gt0-clause-blocks : goal.returns-then-in_leaf-gt0-clause-blocks
returns-then-in_leaf-gt0-clause-blocks g c = omega (arith, c.next_in_leaf.ensures.blocks)

pub returns-clause-blocks : goal.returns-clause-blocks
returns-clause-blocks g c = omega (arith, c.next_leaf-pair.ensures.blocks, c.give_leaf.ensures.blocks)
