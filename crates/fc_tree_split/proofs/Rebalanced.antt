-- A node whose child on the border was rebalanced, and a root that gives way to its only child.
use Rattle.std.proofs.Common.{◌≡◌, ℕ, zero, suc, ◌+◌, ◌<◌, ◌≤◌, [], ◌∷◌, length, get_or, take, drop, refl, sym, ap, subst, ◌∙◌, arith}
use Rattle.std.proofs.Common.{Option, Some, None, MatchOption, inl, inr}
use Rattle.std.specs.List.{AllByRecursion}
use Rattle.fc_base.specs.Sizes.{min_len}
use Rattle.fc_tree_node.specs.declared.node.Node.{Node}
use Rattle.fc_tree_node.specs.Node.{own_pairs, children_of, child_at, IsLeaf, IsLevelled, IsSound}
use Rattle.fc_tree_node.specs.Bordered.{FirstThen, LastAfter, IsLeftBordered, IsRightBordered}
use Rattle.fc_tree_node.specs.Siblings.{IsFormed}
use Rattle.fc_tree_node.specs.Tree.{Map, IsSoundWithin}
use Rattle.fc_tree_node.proofs.Lists.{set_is, all_both}
use Rattle.fc_tree_node.proofs.Pairs.{leaf_children}
use Rattle.fc_tree_node.proofs.Lent.{IsAbove, above, IsLent, lent, lent_is, IsReplaced}
use Rattle.fc_tree_split.specs.Border.{IsBordered, border_place, HasSparePair}
use Rattle.fc_tree_node.specs.Shrunk.{IsShrunk}
use Rattle.fc_tree_split.proofs.Borders.{border_opened}
use Rattle.fc_tree_split.specs.declared.rebalancing.Border.{Border}
use Rattle.fc_tree_split.specs.declared.rebalancing.Border.TheVariants.{Left, Right}

module _ {K V : Type 0} where
  module _ {Z : Type 0} where
    -- a node above the leaves
    pub above_leaf : (s : Border) (h : ℕ) (n : Node K V Z) → (IsLeaf n → ⊥) → IsBordered s h n → IsAbove (IsBordered s) h n
    above_leaf Left h n f = above (IsBordered Left) h n (λ b. f b.1)
    above_leaf Right h n f = above (IsBordered Right) h n (λ b. f b.1)

    -- the node after it was given a spare pair, one level above a child on its border that can spare a pair
    abbrev pub HasSparePairAbove : Border → Node K V Z → ℕ → Node K V Z → Type 0
    HasSparePairAbove s old zero mid = ⊥
    HasSparePairAbove s old (suc h) mid = HasSparePair s h old mid

    abbrev pub IsSpare : Border → ℕ → Node K V Z → Type 0
    IsSpare s h c = IsBordered s h c × (min_len + 1 ≤ length (own_pairs c))

    pub with_spare_lent : (s : Border) (h : ℕ) (old mid child : Node K V Z) (i : ℕ) → IsAbove (IsBordered s) h old
        → ((g : ℕ) → IsBordered s (suc g) old → HasSparePair s g old mid) → i ≡ border_place s mid → child ≡ get_or (children_of mid) i child
        → IsLent (HasSparePairAbove s old) (IsSpare s) h mid child i
    with_spare_lent s h old mid child i a with_spare_pair p q =
        let st = with_spare_pair a.below a.levels in
        let o = border_opened s a.below mid st.0 in
        let le : i ≤ length (own_pairs mid) = omega (arith, o.there, o.inner, p) in
        let on : IsAbove (HasSparePairAbove s old) h mid = record { below = a.below; height = a.height; levels = st } in
        lent on o.inner le (lent_is mid i child o.inner le q) (subst (λ j. IsSpare s a.below (child_at mid j)) (sym p) (o.child, st.1))

    pub rebalanced_levels : (s : Border) (h : ℕ) (old mid new child c : Node K V Z) (i : ℕ)
        (l : IsLent (HasSparePairAbove s old) (IsSpare s) h mid child i) → i ≡ border_place s mid → IsReplaced mid new i c
        → IsShrunk l.below child c → IsShrunk h old new
    rebalanced_levels s h old mid new child c i l place m sh =
        let g = l.below in
        let o = border_opened s g mid l.levels.0 in
        let there : i < length (children_of mid) = omega (arith, o.there, place) in
        let is = m.child ∙ set_is (children_of mid) i c there in
        let before = subst (λ j. AllByRecursion (IsSound g) (take j (children_of mid))) (sym place) o.before in
        let after = subst (λ j. AllByRecursion (IsSound g) (drop (suc j) (children_of mid))) (sym place) o.after in
        let whole : IsSound g c = (omega (arith, l.child.1, sh.1.1), sh.0) in
        let all = subst (AllByRecursion (IsSound g)) (sym is) (all_both (IsSound g) (take i (children_of mid)) _ before (whole, after)) in
        subst (λ k. IsShrunk k old new) (sym l.height) ((omega (arith, m.size, o.fits), m.inner o.inner, all), (omega (arith, m.size), omega (arith, m.size)))

    pub bordered_formed : (s : Border) (h : ℕ) (n : Node K V Z) → IsBordered s h n → IsFormed n
    bordered_formed Left zero n b = inl b.1
    bordered_formed Right zero n b = inl b.1
    bordered_formed Left (suc h) n b = inr b.1
    bordered_formed Right (suc h) n b = inr b.1

  module _ {Z : Type 0} where
    pub heir_levels : (heir : Option (Node K V Z)) (h : ℕ) (root : Node K V Z)
        → MatchOption heir (IsLeaf root) (λ c. children_of root ≡ c ∷ []) → IsLevelled h root → IsSoundWithin h heir
    heir_levels None h root e l = tt
    heir_levels (Some c) zero root e l =
        let z : length (children_of root) ≡ 0 = ap length (leaf_children root l.1) in
        let o : length (children_of root) ≡ 1 = ap length e in absurd (omega arith)
    heir_levels (Some c) (suc h) root e l =
        let a = (subst (AllByRecursion (IsSound h)) e l.2).0 in
        (h, omega arith, (omega arith, a.1))

    pub within_more : (g h : ℕ) (m : Map K V Z) → g ≤ h → IsSoundWithin g m → IsSoundWithin h m
    within_more g h None le w = tt
    within_more g h (Some n) le w = (w.0, omega arith, w.2)

    -- the only child of a root is the one on the border
    pub record IsHeir (s : Border) (h : ℕ) (c : Node K V Z) : Type 0 where
      pub below : ℕ
      pub height : h ≡ suc below
      pub bordered : IsBordered s below c

    no_leaf : (n c : Node K V Z) → children_of n ≡ c ∷ [] → IsLeaf n → ⊥
    no_leaf n c e l = absurd (let z : length (children_of n) ≡ 0 = ap length (leaf_children n l) in
        let o : length (children_of n) ≡ 1 = ap length e in omega arith)

    pub heir_bordered : (s : Border) (h : ℕ) (n c : Node K V Z) → children_of n ≡ c ∷ [] → IsBordered s h n → IsHeir s h c
    heir_bordered Left zero n c e b = absurd (no_leaf n c e b.1)
    heir_bordered Right zero n c e b = absurd (no_leaf n c e b.1)
    heir_bordered Left (suc h) n c e b = record { below = h; height = refl; bordered = (subst (FirstThen (IsLeftBordered h) (IsSound h)) e b.2).0 }
    heir_bordered Right (suc h) n c e b = record { below = h; height = refl; bordered = subst (LastAfter (IsRightBordered h) (IsSound h)) e b.2 }
