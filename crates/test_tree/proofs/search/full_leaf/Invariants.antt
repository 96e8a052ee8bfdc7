use Rattle.std.proofs.Common.{◌≡◌, ◌+◌, ◌*◌, ◌<◌, length}
use Rattle.std.specs.List.{AllByRecursion}
use Rattle.std.specs.Ordering.{nat_cmp, on}
use Rattle.fc_base.specs.Ascending.{IsAscending}
use Rattle.fc_tree_node.specs.Node.{own_pairs, IsLeaf}
use Rattle.test_tree.proofs.search.full_leaf.Given as goal

abbrev pub invariant-loop-half : goal.invariant-loop-half
invariant-loop-half l = IsLeaf l.leaf × (length (own_pairs l.leaf) + 1 ≡ l.half) × IsAscending (on (λ k. k.number) nat_cmp) (own_pairs l.leaf)
    × AllByRecursion (λ e. e.0.number < 2 * l.half) (own_pairs l.leaf)
