use Rattle.std.proofs.Common.{ℕ, ◌<◌, rules, ap, ◌∙◌, arith}
use Rattle.std.proofs.lemmas.Bool.{false≢true}
use Rattle.fc_tree_node.proofs.Lent.{IsAbove, IsLent, replaced, replaced_same}
use Rattle.fc_tree_node.specs.Node.{pairs_of}
use Rattle.fc_tree_split.specs.Border.{IsBordered}
use Rattle.fc_tree_split.proofs.Borders.{border_opened}
use Rattle.fc_tree_node.specs.Measures.{height_of}
use Rattle.fc_tree_split.proofs.Heights.{bordered_height}
use Rattle.fc_tree_split.proofs.Rebalanced.{above_leaf, HasSparePairAbove, IsSpare, with_spare_lent, rebalanced_levels}
use Rattle.fc_tree_node.proofs.SiblingBlocks.{lent_blocks}
use Rattle.fc_tree_split.proofs.rebalancing.+rebalance_below.Given as given
use Rattle.fc_tree_split.proofs.rebalancing.+rebalance_below.Goals as goal
use Rattle.fc_tree_split.proofs.rebalancing.+rebalance_below.Goals.{Else-is_leaf, After-child_in}

above : (g : given.Over) (t : ℕ) (c : Else-is_leaf g t) (h : ℕ) → IsBordered c.args.side h c.args.node.now → IsAbove (IsBordered c.args.side) h c.args.node.now
above g t c h b = above_leaf c.args.side h c.args.node.now (λ l. false≢true (c.if-is_leaf.ensures.1 l)) b

lending : (g : given.Over) (t : ℕ) (c : After-child_in g t) (h : ℕ) → IsAbove (IsBordered c.args.side) h c.args.node.now
    → IsLent (HasSparePairAbove c.args.side c.args.node.now) (IsSpare c.args.side) h c.ensure_spare_pair.new.node c.child_in.result.now
    c.border_child-place.result
lending g t c h a =
    with_spare_lent c.args.side h c.args.node.now _ _ _ a c.ensure_spare_pair.ensures.with_spare_pair c.border_child-place.ensures.value
    c.child_in.ensures.value

pub ensure_spare_pair-requires-clause-bordered : goal.ensure_spare_pair-requires-clause-bordered
ensure_spare_pair-requires-clause-bordered g t c =
    let a = above g t (goal.at.ensure_spare_pair-requires-clause-bordered g t c).Else-is_leaf _ c.requires.bordered.1 in
    (a.below, a.levels)

pub child_in-requires : goal.child_in-requires
child_in-requires g t c =
    let a = above g t (goal.at.child_in-requires g t c).Else-is_leaf _ c.requires.bordered.1 in
    let o = border_opened c.args.side a.below c.ensure_spare_pair.new.node (c.ensure_spare_pair.ensures.with_spare_pair a.below a.levels).0 in
    omega (arith, o.there, c.border_child-place.ensures.value)

pub rebalance_below-requires : goal.rebalance_below-requires
rebalance_below-requires g t c κs within =
    let w = goal.at.rebalance_below-requires g t c in
    let l = lending g t w.After-child_in _ (above g t w.Else-is_leaf _ c.requires.bordered.1) in
    let x = bordered_height c.args.side _ c.args.node.now c.requires.bordered.1 in
    let y = bordered_height c.args.side _ c.child_in.result.now l.child.0 in
    let falls : height_of c.child_in.result.now < height_of c.args.node.now = omega arith in
    (search rules, (search rules, (search rules, (search rules, (omega (arith, l.child.1), (l.below, l.child.0))))))

pub returns-clause-pairs : goal.returns-clause-pairs
returns-clause-pairs g t c =
    let at = goal.at.returns-clause-pairs g t c in
    let l = lending g t at.After-child_in _ (above g t at.Else-is_leaf _ c.requires.bordered.1) in
    replaced_same (replaced _ _ _) l.inner l.place (c.rebalance_below.ensures.pairs ∙ ap pairs_of l.is) ∙ c.ensure_spare_pair.ensures.pairs

pub returns-clause-levels : goal.returns-clause-levels
returns-clause-levels g t c h b =
    let w = goal.at.returns-clause-levels g t c in
    let l = lending g t w.After-child_in h (above g t w.Else-is_leaf h b) in
    rebalanced_levels c.args.side h c.args.node.now c.ensure_spare_pair.new.node _ c.child_in.result.now _ _ l c.border_child-place.ensures.value
    (replaced _ _ _)
    (c.rebalance_below.ensures.levels l.below l.child.0)

pub returns-clause-blocks : goal.returns-clause-blocks
returns-clause-blocks g t c =
    let at = goal.at.returns-clause-blocks g t c in
    let l = lending g t at.After-child_in _ (above g t at.Else-is_leaf _ c.requires.bordered.1) in
    let b = lent_blocks c.ensure_spare_pair.new.node _ _ _ c.border_child-place.result l.inner l.place (replaced _ _ _) l.is c.rebalance_below.ensures.blocks in
    omega (arith, b, c.ensure_spare_pair.ensures.blocks)
