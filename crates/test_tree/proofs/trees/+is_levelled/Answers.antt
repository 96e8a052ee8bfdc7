use Rattle.std.proofs.Common.{◌≡◌, ℕ, ◌↔◌, ◌≤◌, length, Bool, true, false, refl, IsTrue}
use Rattle.std.specs.Bool.{OnTrue}
use Rattle.fc_base.specs.Sizes.{capacity}
use Rattle.fc_tree_node.specs.Node.{IsLevelled, IsLeaf, own_pairs}
use Rattle.fc_tree_node.specs.declared.node.Node.{Node}
use Rattle.test_tree.proofs.trees.+is_levelled.Goals as goal

leaf_levelled : {K V Z : Type 0} (b : Bool) (h : ℕ) (n : Node K V Z) → (IsTrue b ↔ IsLeaf n) → h ≡ 0 → length (own_pairs n) ≤ capacity
    → OnTrue b (IsLevelled h n)
leaf_levelled false h n t e f = tt
leaf_levelled true h n t e f = rw e (f, t.0 refl)

pub returns-then-height-eq0 : goal.returns-then-height-eq0
returns-then-height-eq0 t c = leaf_levelled c.is_leaf.result c.args.height c.args.node.now c.is_leaf.ensures c.if-height-eq0.true c.len-len.ensures.fits
