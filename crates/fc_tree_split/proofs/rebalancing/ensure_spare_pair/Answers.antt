use Rattle.std.proofs.Common.{◌≡◌, ℕ, suc, ◌+◌, ◌-◌, length, ap, sym, subst, ◌∙◌, arith}
use Rattle.fc_base.specs.Sizes.{min_len}
use Rattle.fc_tree_node.specs.Node.{own_pairs, child_at}
use Rattle.fc_tree_node.specs.Siblings.{AreAlike}
use Rattle.fc_tree_node.proofs.Sizes.{level_size}
use Rattle.fc_tree_split.specs.Border.{IsBordered, border_place}
use Rattle.fc_tree_split.proofs.Borders.{LeftOf, RightOf}
use Rattle.fc_tree_split.proofs.SparePairs.{IsPairAt, both_of, left_share, pair_opened, pair_alike, merged_with_spare, shared_with_spare}
use Rattle.fc_tree_node.proofs.SiblingBlocks.{merged_blocks, shared_blocks}
use Rattle.fc_tree_split.proofs.rebalancing.ensure_spare_pair.Given as given
use Rattle.fc_tree_split.proofs.rebalancing.ensure_spare_pair.Goals as goal
use Rattle.fc_tree_split.proofs.rebalancing.ensure_spare_pair.Goals.{After-saturating_sub-place, After-len-2}

pair_at : (g : given.Over) (c : After-saturating_sub-place g) (h : ℕ) → IsBordered c.args.side (suc h) c.args.node.now
    → IsPairAt c.args.side h c.args.node.now c.saturating_sub-place.result
pair_at g c h b =
    pair_opened c.args.side h c.args.node.now _ c.requires.some b (c.saturating_sub-place.ensures ∙ ap (λ k. k - 1) c.border_child-edge.ensures.value)

alike : (g : given.Over) (c : After-saturating_sub-place g)
    → AreAlike (child_at c.args.node.now c.saturating_sub-place.result) (child_at c.args.node.now (c.saturating_sub-place.result + 1))
alike g c = pair_alike _ _ _ _ (pair_at g c c.requires.bordered.0 c.requires.bordered.1)

-- how many pairs the border and its sibling have
both : (g : given.Over) (c : After-len-2 g) → both_of c.args.node.now c.saturating_sub-place.result ≡ c.len.result + c.len-2.result
both g c =
    let l = ap (λ m. length (own_pairs m)) c.child-2.ensures in
    let r = ap (λ m. length (own_pairs m)) c.child-3.ensures in
    omega arith

pub merge-requires-clause-alike : goal.merge-requires-clause-alike
merge-requires-clause-alike g c = alike g (goal.at.merge-requires-clause-alike g c).After-saturating_sub-place

pub bulk_steal_right-requires-clause-alike : goal.bulk_steal_right-requires-clause-alike
bulk_steal_right-requires-clause-alike g c = alike g (goal.at.bulk_steal_right-requires-clause-alike g c).After-saturating_sub-place

pub bulk_steal_left-requires-clause-alike : goal.bulk_steal_left-requires-clause-alike
bulk_steal_left-requires-clause-alike g c = alike g (goal.at.bulk_steal_left-requires-clause-alike g c).After-saturating_sub-place

pub returns-then-len-lt-CAPACITY-clause-with_spare_pair : goal.returns-then-len-lt-CAPACITY-clause-with_spare_pair
returns-then-len-lt-CAPACITY-clause-with_spare_pair g c h b =
    let a = goal.at.returns-then-len-lt-CAPACITY-clause-with_spare_pair g c in
    let size = both g a.After-len-2 in
    merged_with_spare c.args.side h _ _ _ (pair_at g a.After-saturating_sub-place h b) (omega arith) c.merge.ensures.merged

pub returns-in-Left-clause-with_spare_pair : goal.returns-in-Left-clause-with_spare_pair
returns-in-Left-clause-with_spare_pair g c h b =
    let a = goal.at.returns-in-Left-clause-with_spare_pair g c in
    let n = c.args.node.now in
    let place = c.saturating_sub-place.result in
    let p = pair_at g a.After-saturating_sub-place h b in
    let size = both g a.After-len-2 in
    let edge : c.border_child-edge.result ≡ 0 = c.border_child-edge.ensures.value ∙ ap (λ s. border_place s n) c.in-Left.is in
    let s = c.saturating_sub-place.ensures in
    let q : c.border_child-edge.result ≡ place = omega arith in
    let w = ap (λ m. length (own_pairs m)) (c.child.ensures ∙ ap (child_at n) q) in
    let top = level_size h _ (subst (λ s. RightOf s h (child_at n (place + 1))) c.in-Left.is p.right) in
    let k : length (own_pairs (child_at n place)) + ((min_len + 1) - c.len-held.result) ≡ min_len + 1 = omega arith in
    shared_with_spare c.args.side h n _ place p (omega arith) (omega arith) _ (k ∙ ap (λ s. left_share s (both_of n place)) (sym c.in-Left.is))
    c.bulk_steal_right.ensures.shared

pub returns-in-Right-clause-with_spare_pair : goal.returns-in-Right-clause-with_spare_pair
returns-in-Right-clause-with_spare_pair g c h b =
    let a = goal.at.returns-in-Right-clause-with_spare_pair g c in
    let n = c.args.node.now in
    let place = c.saturating_sub-place.result in
    let p = pair_at g a.After-saturating_sub-place h b in
    let size = both g a.After-len-2 in
    let edge : c.border_child-edge.result ≡ length (own_pairs n) = c.border_child-edge.ensures.value ∙ ap (λ s. border_place s n) c.in-Right.is in
    let s = c.saturating_sub-place.ensures in
    let q : c.border_child-edge.result ≡ place + 1 = omega arith in
    let w = ap (λ m. length (own_pairs m)) (c.child.ensures ∙ ap (child_at n) q) in
    let top = level_size h _ (subst (λ s. LeftOf s h (child_at n place)) c.in-Right.is p.left) in
    let k : length (own_pairs (child_at n place)) - ((min_len + 1) - c.len-held.result) ≡ both_of n place - (min_len + 1) = omega arith in
    shared_with_spare c.args.side h n _ place p (omega arith) (omega arith) _ (k ∙ ap (λ s. left_share s (both_of n place)) (sym c.in-Right.is))
    c.bulk_steal_left.ensures.shared

pub returns-then-len-lt-CAPACITY-clause-blocks : goal.returns-then-len-lt-CAPACITY-clause-blocks
returns-then-len-lt-CAPACITY-clause-blocks g c =
    let p = pair_at g (goal.at.returns-then-len-lt-CAPACITY-clause-blocks g c).After-saturating_sub-place _ c.requires.bordered.1 in
    merged_blocks _ _ _ p.inner c.merge.ensures.inner p.in_bounds c.merge.ensures.merged

pub returns-in-Left-clause-blocks : goal.returns-in-Left-clause-blocks
returns-in-Left-clause-blocks g c =
    let at = (goal.at.returns-in-Left-clause-blocks g c).After-saturating_sub-place in
    let p = pair_at g at _ c.requires.bordered.1 in
    shared_blocks _ _ _ _ p.inner c.bulk_steal_right.ensures.inner p.in_bounds (alike g at) c.bulk_steal_right.ensures.shared

pub returns-in-Right-clause-blocks : goal.returns-in-Right-clause-blocks
returns-in-Right-clause-blocks g c =
    let at = (goal.at.returns-in-Right-clause-blocks g c).After-saturating_sub-place in
    let p = pair_at g at _ c.requires.bordered.1 in
    shared_blocks _ _ _ _ p.inner c.bulk_steal_left.ensures.inner p.in_bounds (alike g at) c.bulk_steal_left.ensures.shared
