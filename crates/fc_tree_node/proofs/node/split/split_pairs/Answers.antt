use Rattle.std.proofs.Common.{◌+◌, ◌<◌, ◌≤◌, length, arith}
use Rattle.std.proofs.lemmas.Bool.Decides.{nat_tests}
use Rattle.fc_tree_node.proofs.Cuts.{cut_insert, cut_insert_back}
use Rattle.fc_tree_node.proofs.node.split.split_pairs.Goals as goal

pub returns-then-index-le-MIN_LEN-clause-items : goal.returns-then-index-le-MIN_LEN-clause-items
returns-then-index-le-MIN_LEN-clause-items g c =
    let h : c.middle_for-middle.result < length c.args.left.now = grind (arith, nat_tests) in
    let k : c.args.index ≤ c.middle_for-middle.result = grind (arith, nat_tests) in
    simp (c.insert.ensures.items, c.remove-up.ensures.items, c.move_tail.ensures.other, c.move_tail.ensures.items, c.requires.empty)
    (cut_insert c.args.left.now c.middle_for-middle.result c.args.index c.remove-up.result c.args.item h k
    (simp c.move_tail.ensures.items at c.remove-up.ensures.value))

pub returns-else-index-le-MIN_LEN-clause-items : goal.returns-else-index-le-MIN_LEN-clause-items
returns-else-index-le-MIN_LEN-clause-items g c =
    let h : c.middle_for-middle.result < length c.args.left.now = grind (arith, nat_tests) in
    let k : c.middle_for-middle.result + 1 ≤ c.args.index = grind (arith, nat_tests) in
    simp (c.insert-else-index-le-MIN_LEN.ensures.items, c.remove-up.ensures.items, c.move_tail.ensures.other, c.move_tail.ensures.items, c.requires.empty)
    (cut_insert_back c.args.left.now c.middle_for-middle.result c.args.index c.remove-up.result c.args.item h k
    (simp c.move_tail.ensures.items at c.remove-up.ensures.value))
