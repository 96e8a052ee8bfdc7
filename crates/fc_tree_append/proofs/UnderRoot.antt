-- Two trees of one height below a new root.
use Rattle.std.proofs.Common.{◌≡◌, ℕ, suc, ◌+◌, ◌<◌, ◌≤◌, [], ◌∷◌, ◌++◌, ◌^◌, length, get_or, ap, subst, ◌∙◌, arith, length-append, Some, None}
use Rattle.std.specs.Prelude.{slice_set}
use Rattle.std.specs.List.{remove}
use Rattle.fc_base.specs.Sizes.{capacity, min_len}
use Rattle.fc_tree_node.specs.declared.node.Node.{Node}
use Rattle.fc_tree_node.specs.Node.{own_pairs, children_of, child_at, pairs_of, IsInner, IsLevelled}
use Rattle.fc_tree_node.specs.Siblings.{AreAlike, IsMerged}
use Rattle.fc_tree_node.specs.Tree.{Map, entries, IsSoundMap, IsSoundWithin}
use Rattle.fc_tree_node.proofs.DepthFacts.{deep_root, few_levels}
use Rattle.fc_tree_split.specs.Border.{IsBordered}
use Rattle.fc_tree_split.specs.declared.rebalancing.Border.TheVariants.{Left, Right}
use Rattle.fc_tree_split.proofs.Borders.{levelled_bordered, sides_alike, side_whole}
use Rattle.fc_tree_append.proofs.GraftedFacts.{root_bordered}

module _ {K V Z : Type 0} where
  -- the root and its two children
  pub record IsUnderRoot (h : ℕ) (root left : Node K V Z) (up : K × V) (right : Node K V Z) : Type 0 where
    pub own : own_pairs root ≡ up ∷ []
    pub children : children_of root ≡ left ∷ right ∷ []
    pub first : IsLevelled h left
    pub second : IsLevelled h right

  module _ {h : ℕ} {root left right : Node K V Z} {up : K × V} (r : IsUnderRoot h root left up right) where
    pub under_root_right : min_len ≤ length (own_pairs left) → IsBordered Right (suc h) root
    under_root_right m = root_bordered Right h root left up right r.own r.children ((m, r.first), levelled_bordered Right h right r.second)

    pub under_root_left : min_len ≤ length (own_pairs right) → IsBordered Left (suc h) root
    under_root_left m = root_bordered Left h root left up right r.own r.children (levelled_bordered Left h left r.first, (m, r.second))

    pub under_root_inner : IsInner root
    under_root_inner = let n : length (own_pairs root) ≡ 1 = ap length r.own in let k : length (children_of root) ≡ 2 = ap length r.children in omega arith

    first_is : child_at root 0 ≡ left
    first_is = ap (λ cs. get_or cs 0 root) r.children

    second_is : child_at root 1 ≡ right
    second_is = ap (λ cs. get_or cs 1 root) r.children

    pub under_root_alike : AreAlike (child_at root 0) (child_at root 1)
    under_root_alike = rw (first_is, second_is) (sides_alike Right h left right r.first (levelled_bordered Right h right r.second))

    pub under_root_room : length (own_pairs left) + length (own_pairs right) < capacity
        → length (own_pairs (child_at root 0)) + length (own_pairs (child_at root 1)) + 1 ≤ capacity
    under_root_room m = rw (first_is, second_is) (omega arith)

    -- where the two become one node
    pub merged_right : (new : Node K V Z) → length (own_pairs left) + length (own_pairs right) < capacity → IsMerged 0 root new → IsBordered Right (suc h) new
    merged_right new m g =
        let none : length (own_pairs new) ≡ 0 = ap length g.pairs ∙ ap (λ ps. length (remove ps 0)) r.own in
        let one : children_of new ≡ g.whole ∷ [] = g.children ∙ ap (λ cs. slice_set (remove cs 1) 0 g.whole) r.children in
        let n : length (children_of new) ≡ 1 = ap length one in
        let own : length (own_pairs g.whole) ≡ length (own_pairs left) + (length (own_pairs right) + 1) = ap length
        (g.own up ∙ ap (λ n. own_pairs n ++ get_or (own_pairs root) 0 up ∷ own_pairs (child_at root 1)) first_is
        ∙ ap (λ n. own_pairs left ++ get_or (own_pairs root) 0 up ∷ own_pairs n) second_is) ∙ length-append (own_pairs left) _ ∙ omega arith in
        let below = g.below ∙ ap (λ n. children_of n ++ children_of (child_at root 1)) first_is ∙ ap (λ n. children_of left ++ children_of n) second_is in
        let whole = side_whole Right h left right g.whole r.first (levelled_bordered Right h right r.second) below
        (subst (λ n. AreAlike n g.whole) first_is g.alike) (omega arith) in
        (omega arith, omega arith, rw one whole)

  -- a tree of at most 2^64 - 1 pairs is not too high
  pub within_few : (h : ℕ) (m : Map K V Z) → IsSoundWithin h m → length (entries m) < 2 ^ 64 → IsSoundMap m
  within_few h None w l = tt
  within_few h (Some root) w l = (w.0, few_levels w.0 (length (pairs_of root)) (deep_root w.0 root w.2) l, w.2)
