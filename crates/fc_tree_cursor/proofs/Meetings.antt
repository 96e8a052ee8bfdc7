-- Two paths down one tree to gaps of leaves are the same where as many pairs are before the one as before the other.
use Rattle.std.proofs.Common.{◌≡◌, ℕ, zero, suc, ◌+◌, ◌-◌, ◌<◌, ◌≤◌, List, [], ◌∷◌, ◌++◌, length, sym, ap, subst, ◌∙◌, arith, ◌⊎◌, inl, inr}
use Rattle.std.proofs.Common.{length-append}
use Rattle.std.proofs.lemmas.Bool.{cases_lt}
use Rattle.std.proofs.lemmas.List.{nil_from_length}
use Rattle.fc_tree_node.specs.declared.node.Node.{Node}
use Rattle.fc_tree_node.specs.Node.{own_pairs, child_at, pairs_of, IsLevelled}
use Rattle.fc_tree_node.specs.Path.{IsPath, before_gap}
use Rattle.fc_tree_node.specs.Place.{before_child, before_own}
use Rattle.fc_tree_node.proofs.Gaps.{item_there, own_pair, before_child_pair, after_child_pair, leaf_gap, inner_gap, gap_pairs}
use Rattle.fc_tree_node.proofs.Pairs.{child_below}

module _ {K V Z : Type 0} where
  -- How many pairs stand in the child at a place.
  inside : ℕ → Node K V Z → ℕ → ℕ
  inside zero n i = 0
  inside (suc h) n i = length (pairs_of (child_at n i))

  -- From one place to the next come the child's pairs and the pair between.
  next_before : (h : ℕ) (n : Node K V Z) (i : ℕ) → IsLevelled h n → i < length (own_pairs n)
      → length (before_child n (suc i)) ≡ length (before_child n i) + inside h n i + 1
  unfolding inside
  next_before zero n i l k =
      let p = (item_there (own_pairs n) i k).0 in
      let a = ap length (before_child_pair zero n i p l k) ∙ length-append (before_own n i) _ in
      let b = ap length (sym (own_pair zero n i p l k) ∙ leaf_gap n i l.1 ∙ ap (λ zs. before_child n i ++ zs) (after_child_pair n i p k)) in
      let c = length-append (before_own n i) in
      let d = length-append (before_child n i) in
      omega (arith, a, b, c, d)
  next_before (suc h) n i l k =
      let p = (item_there (own_pairs n) i k).0 in
      let a = ap length (before_child_pair (suc h) n i p l k) ∙ length-append (before_own n i) _ in
      let b = ap length (sym (own_pair (suc h) n i p l k) ∙ inner_gap n i l.1 (omega arith)
      ∙ ap (λ zs. before_child n i ++ (pairs_of (child_at n i) ++ zs)) (after_child_pair n i p k)) in
      let c = length-append (before_own n i) in
      let d = length-append (before_child n i) in
      let e = length-append (pairs_of (child_at n i)) in
      omega (arith, a, b, c, d, e)

  -- At a later place the child's pairs and more lead.
  later_before : (h : ℕ) (n : Node K V Z) (i d : ℕ) → IsLevelled h n → i + suc d ≤ length (own_pairs n)
      → length (before_child n i) + inside h n i < length (before_child n (i + suc d))
  later_before h n i zero l k =
      let e : i + 1 ≡ suc i = omega arith in
      rw e (omega (arith, next_before h n i l (omega arith)))
  later_before h n i (suc d) l k =
      let e : i + suc (suc d) ≡ suc (i + suc d) = omega arith in
      rw e (omega (arith, later_before h n i d l (omega arith), next_before h n (i + suc d) l (omega arith)))

  -- What is before a gap below the child at a place are pairs of the child.
  before_inside : (path : List ℕ) (h : ℕ) (n : Node K V Z) (i : ℕ) → IsLevelled h n → i ≤ length (own_pairs n) → IsPath path (child_at n i) → length path ≡ h
      → length (before_gap path (child_at n i)) ≤ inside h n i
  unfolding inside
  before_inside [] h n i l k p e = omega arith
  before_inside (j ∷ path) zero n i l k p e = absurd (omega arith)
  before_inside (j ∷ path) (suc h) n i l k p e =
      let c = child_at n i in
      let r = ap length (gap_pairs (j ∷ path) h c (child_below h n i l k).1 (omega arith) p) ∙ length-append (before_gap (j ∷ path) c) _ in
      omega (arith, r)

  -- A path with an earlier first step has fewer pairs before it.
  pub earlier : (h : ℕ) (n : Node K V Z) (i j : ℕ) (p q : List ℕ) → IsLevelled h n → i < j → j ≤ length (own_pairs n) → IsPath p (child_at n i) → length p ≡ h
      → length (before_gap (i ∷ p) n) < length (before_gap (j ∷ q) n)
  earlier h n i j p q l lt le w e =
      let d = later_before h n i (j - suc i) l (omega arith) in
      let s : i + suc (j - suc i) ≡ j = omega arith in
      let g = subst (λ m. length (before_child n i) + inside h n i < length (before_child n m)) s d in
      let b = before_inside p h n i l (omega arith) w e in
      omega (arith, g, b, length-append (before_child n i) (before_gap p (child_at n i)), length-append (before_child n j) (before_gap q (child_at n j)))

  -- So with as many pairs before them the first steps are the same.
  first_step : (h : ℕ) (n : Node K V Z) (i j : ℕ) (p q : List ℕ) → IsLevelled h n → IsPath (i ∷ p) n → IsPath (j ∷ q) n → length p ≡ h → length q ≡ h
      → length (before_gap (i ∷ p) n) ≡ length (before_gap (j ∷ q) n) → i ≡ j
  first_step h n i j p q l v w e f g = order (cases_lt i j) (cases_lt j i)
    where
      order : (i < j) ⊎ (j ≤ i) → (j < i) ⊎ (i ≤ j) → i ≡ j
      order (inl a) b = absurd (let c = earlier h n i j p q l a w.0 v.1 e in omega (arith, c, g))
      order (inr a) (inl b) = absurd (let c = earlier h n j i q p l b v.0 w.1 f in omega (arith, c, g))
      order (inr a) (inr b) = omega arith

  -- And so are all others.
  pub same_path : (h : ℕ) (n : Node K V Z) (p q : List ℕ) → IsLevelled h n → IsPath p n → IsPath q n → length p ≡ h + 1 → length q ≡ h + 1
      → length (before_gap p n) ≡ length (before_gap q n) → p ≡ q
  same_path h n [] q l v w e f g = absurd (omega arith)
  same_path h n (i ∷ p) [] l v w e f g = absurd (omega arith)
  same_path zero n (i ∷ p) (j ∷ q) l v w e f g =
      let s = first_step zero n i j p q l v w (omega arith) (omega arith) g in
      ap (λ k. k ∷ p) s ∙ ap (λ r. j ∷ r) (nil_from_length p (omega arith) ∙ sym (nil_from_length q (omega arith)))
  same_path (suc h) n (i ∷ p) (j ∷ q) l v w e f g =
      let s = first_step (suc h) n i j p q l v w (omega arith) (omega arith) g in
      let x = subst (λ k. IsPath q (child_at n k)) (sym s) w.1 in
      let y : length (before_gap (i ∷ p) n) ≡ length (before_gap (i ∷ q) n) = g ∙ ap (λ k. length (before_gap (k ∷ q) n)) (sym s) in
      let b = length-append (before_child n i) (before_gap p (child_at n i)) in
      let c = length-append (before_child n i) (before_gap q (child_at n i)) in
      let r = same_path h (child_at n i) p q (child_below h n i l v.0).1 v.1 x (omega arith) (omega arith) (omega (arith, y, b, c)) in
      ap (λ k. k ∷ p) s ∙ ap (λ z. j ∷ z) r
