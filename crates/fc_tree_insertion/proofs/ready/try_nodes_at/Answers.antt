use Rattle.std.proofs.Common.{◌≡◌, ◌≤◌, length, arith}
use Rattle.std.proofs.lemmas.Result.{on_err_weaker}
use Rattle.fc_base.specs.Sizes.{capacity}
use Rattle.fc_tree_node.specs.Node.{own_pairs, pairs_of}
use Rattle.fc_tree_insertion.specs.Cascade.{leaf_at}
use Rattle.fc_tree_insertion.proofs.InsertedTrees.{leaf_within}
use Rattle.fc_tree_insertion.proofs.ready.try_nodes_at.Goals as goal

pub returns-clause-leaf : goal.returns-clause-leaf
returns-clause-leaf g c =
    let root = c.args.root.now in
    let path = c.args.path.now in
    let steps = c.requires.levels c.requires.sound.0 c.requires.sound.2.1 in
    let within = leaf_within path c.requires.sound.0 root c.requires.sound.2.1 steps c.requires.path in
    let full : length (own_pairs (leaf_at path root)) ≡ capacity → capacity ≤ length (pairs_of root) = λ is. omega (arith, is) in
    on_err_weaker _ full (rw c.as_slice.ensures.value at c.try_new_nodes.ensures.full)
