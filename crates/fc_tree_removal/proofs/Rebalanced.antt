-- The levels of a node of which one child is rebalanced.
use Rattle.std.proofs.Common.{◌≡◌, ℕ, suc, zero, ◌+◌, ◌-◌, ◌<◌, ◌≤◌, List, [], ◌∷◌, length, get_or, take, drop, sym, ap, subst, ◌∙◌, arith, add-one, inl, inr}
use Rattle.std.specs.List.{AllByRecursion}
use Rattle.std.proofs.lemmas.List.Edits.{length-remove}
use Rattle.fc_base.specs.Sizes.{capacity, min_len}
use Rattle.fc_tree_node.specs.declared.node.Node.{Node}
use Rattle.fc_tree_node.specs.Node.{own_pairs, children_of, child_at, IsInner, IsLevelled, IsSound}
use Rattle.fc_tree_node.specs.Siblings.{AreAlike, IsMerged, IsShared}
use Rattle.fc_tree_removal.specs.Rebalancing.{together, IsShortAt}
use Rattle.fc_tree_node.specs.Shrunk.{IsShrunk}
use Rattle.fc_tree_node.proofs.Lists.{length_set, all_both}
use Rattle.fc_tree_node.proofs.Siblings.{one_at, merged_levels, shared_levels}
use Rattle.fc_tree_node.proofs.Gaps.{item_there}

module _ {K V Z : Type 0} where
  -- two neighbours of which one may have a pair too few, among sound ones
  pub record IsPairAt (h : ℕ) (n : Node K V Z) (i : ℕ) : Type 0 where
    pub in_bounds : i < length (own_pairs n)
    pub fits : length (own_pairs n) ≤ capacity
    pub inner : IsInner n
    pub left : IsLevelled h (child_at n i)
    pub right : IsLevelled h (child_at n (i + 1))
    pub left_length : min_len - 1 ≤ length (own_pairs (child_at n i))
    pub right_length : min_len - 1 ≤ length (own_pairs (child_at n (i + 1)))
    pub before : AllByRecursion (IsSound h) (take i (children_of n))
    pub after : AllByRecursion (IsSound h) (drop (suc (suc i)) (children_of n))

  all_next : (P : Node K V Z → Type 0) (cs : List (Node K V Z)) (i : ℕ) (d : Node K V Z) → i < length cs → AllByRecursion P (drop i cs)
      → P (get_or cs i d) × AllByRecursion P (drop (suc i) cs)
  all_next P [] i d h a = absurd (omega arith)
  all_next P (c ∷ cs) zero d h a = (a.0, a.1)
  all_next P (c ∷ cs) (suc i) d h a = all_next P cs i d (omega arith) a

  all_last : (P : Node K V Z → Type 0) (cs : List (Node K V Z)) (i : ℕ) (d : Node K V Z) → i < length cs → AllByRecursion P (take (suc i) cs)
      → P (get_or cs i d) × AllByRecursion P (take i cs)
  all_last P [] i d h a = absurd (omega arith)
  all_last P (c ∷ cs) zero d h a = (a.0, tt)
  all_last P (c ∷ cs) (suc i) d h a = let r = all_last P cs i d (omega arith) a.1 in (r.0, (a.0, r.1))

  -- the short child and the sibling that it is rebalanced with
  pub pair_short : (h : ℕ) (n : Node K V Z) (i j : ℕ) → j ≡ i - 1 → IsShortAt h n i → IsPairAt h n j
  pair_short h n zero j e s =
      let f : j ≡ 0 = omega arith in
      let r = all_next (IsSound h) (children_of n) 1 n (omega arith) s.after in
      subst (λ m. IsPairAt h n m) (sym f) (record {
        in_bounds = omega arith;
        fits = s.fits;
        inner = s.inner;
        left = s.levels;
        right = r.0.1;
        left_length =
            s.short;
        right_length = omega arith;
        before = tt;
        after = r.1;
      })
  pair_short h n (suc i) j e s =
      let f : j ≡ i = omega arith in
      let r = all_last (IsSound h) (children_of n) i n (omega arith) s.before in
      subst (λ m. IsPairAt h n m) (sym f) (record {
        in_bounds = omega arith;
        fits = s.fits;
        inner = s.inner;
        left = r.0.1;
        left_length = omega arith;
        before = r.1;
        after = s.after;
        right = subst (λ m. IsLevelled h (child_at n m)) (sym (add-one i)) s.levels;
        right_length = subst (λ m. min_len - 1 ≤ length (own_pairs (child_at n m))) (sym (add-one i)) s.short;
      })

  pub pair_alike : (h : ℕ) (n : Node K V Z) (i : ℕ) → IsPairAt h n i → AreAlike (child_at n i) (child_at n (i + 1))
  pair_alike zero n i p = inl (p.left.1, p.right.1)
  pair_alike (suc h) n i p = inr (p.left.1, p.right.1)

  pub merged_rebalanced : (h : ℕ) (old new : Node K V Z) (i : ℕ) → IsPairAt h old i → together old i ≤ capacity → IsMerged i old new → IsShrunk (suc h) old new
  merged_rebalanced h old new i p room m =
      let d = (item_there (own_pairs old) i p.in_bounds).0 in
      let o = ap length m.pairs in
      let o' = length-remove (own_pairs old) i p.in_bounds in
      (merged_levels old i p.inner p.in_bounds h new d p.fits (p.before, p.after) p.left p.right m (omega arith) (omega arith), (omega arith, omega arith))

  pub stolen_rebalanced : (h : ℕ) (old new : Node K V Z) (i k : ℕ) → IsPairAt h old i → min_len ≤ k → k ≤ capacity → k + 1 + min_len ≤ together old i
      → together old i ≤ k + 1 + capacity → IsShared i k old new → IsShrunk (suc h) old new
  stolen_rebalanced h old new i k p lo hi lo' hi' s =
      let o = ap length s.pairs ∙ length_set (own_pairs old) i s.between in (
        shared_levels old i p.inner p.in_bounds h k new p.fits (p.before, p.after) p.left p.right s lo hi (omega arith) (omega arith),
        (omega arith, omega arith),
      )

  -- the child was not short
  pub whole_levels : (h : ℕ) (n : Node K V Z) (i : ℕ) → IsShortAt h n i → min_len ≤ length (own_pairs (child_at n i)) → IsShrunk (suc h) n n
  whole_levels h n i s le =
      let e = one_at (children_of n) i n (omega arith) in (
        (s.fits, s.inner, subst (AllByRecursion (IsSound h)) (sym e) (all_both (IsSound h) (take i (children_of n)) _ s.before ((le, s.levels), s.after))),
        (omega arith, omega arith),
      )
