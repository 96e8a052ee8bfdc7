-- The two ends of a walk over part of a tree: where they are in a node, and how they go on below it.
use Rattle.std.proofs.Common.{◌≡◌, ℕ, suc, zero, ◌+◌, ◌<◌, ◌≤◌, List, [], ◌∷◌, ◌++◌, length, get_or, map, take, drop, refl, sym, ap, subst, ◌∙◌, arith}
use Rattle.std.proofs.Common.{append-nil, inl, inr, ◌⊎◌, Some}
use Rattle.std.proofs.lemmas.Bool.{cases_lt}
use Rattle.std.proofs.lemmas.List.{length-append, nil_from_length}
use Rattle.fc_tree_node.specs.Weave.{before_list, after_list}
use Rattle.fc_tree_node.specs.declared.node.Node.{Node}
use Rattle.fc_tree_node.specs.Node.{own_pairs, child_at, pairs_of, IsLeaf, IsLevelled}
use Rattle.fc_tree_node.specs.Path.{IsPath, before_gap, after_gap}
use Rattle.fc_tree_node.specs.Place.{before_child, after_child}
use Rattle.fc_tree_node.proofs.Lists.{take_nil, drop_nil}
use Rattle.fc_tree_node.proofs.Pairs.{leaf_children, child_below}
use Rattle.fc_tree_node.proofs.Gaps.{drop_all, after_none}
use Rattle.fc_tree_cursor.specs.Gap.{AreEndsIn}
use Rattle.fc_tree_cursor.specs.Ends.{AreInOrder, IsEnd}
use Rattle.fc_tree_cursor.proofs.Meetings.{earlier}

after_nothing : {X : Type 0} (xs : List X) → after_list xs [] ≡ xs
after_nothing [] = refl
after_nothing (x ∷ xs) = refl

-- nothing comes after the end of a node
pub order_open : (front : List ℕ) → AreInOrder front []
order_open [] = tt
order_open (i ∷ front) = tt

pub order_onward : (front back : List ℕ) (m : ℕ) → AreInOrder front back → get_or front 0 0 ≡ get_or back 0 m → AreInOrder (drop 1 front) (drop 1 back)
order_onward [] back m o e = tt
order_onward (i ∷ front) [] m o e = order_open front
order_onward (i ∷ front) (j ∷ back) m (inl lt) e = absurd (omega arith)
order_onward (i ∷ front) (j ∷ back) m (inr o) e = o.1

module _ {K V Z : Type 0} where
  pub end_inside : (h : ℕ) (path : List ℕ) (n : Node K V Z) (m : ℕ) → IsEnd h path n → m ≤ length (own_pairs n) → get_or path 0 m ≤ length (own_pairs n)
  end_inside h [] n m e le = le
  end_inside h (i ∷ path) n m e le = e.0.0

  pub ends_order : (h : ℕ) (front back : List ℕ) (n : Node K V Z) → IsEnd h front n → AreInOrder front back
      → get_or front 0 0 ≤ get_or back 0 (length (own_pairs n))
  ends_order h [] back n e o = omega arith
  ends_order h (i ∷ front) [] n e o = e.0.0
  ends_order h (i ∷ front) (j ∷ back) n e (inl lt) = omega arith
  ends_order h (i ∷ front) (j ∷ back) n e (inr o) = omega arith

  -- a path goes on in a child
  pub end_below : (h : ℕ) (path : List ℕ) (n : Node K V Z) (m : ℕ) → IsEnd (suc h) path n → IsEnd h (drop 1 path) (child_at n (get_or path 0 m))
  end_below h [] n m e = (tt, λ q. absurd (omega arith))
  end_below h (i ∷ path) n m e = (e.0.1, λ q. let f = e.1 (omega arith) in omega arith)

  pub front_parts : (front : List ℕ) (n : Node K V Z)
      → before_gap front n ≡ before_child n (get_or front 0 0) ++ before_gap (drop 1 front) (child_at n (get_or front 0 0))
  front_parts [] n = refl
  front_parts (i ∷ front) n = refl

  pub back_parts : (back : List ℕ) (n : Node K V Z) (i : ℕ) → i ≡ get_or back 0 (length (own_pairs n))
      → after_gap (drop 1 back) (child_at n i) ++ after_child n i ≡ after_gap back n
  back_parts [] n i e = after_none n i (omega arith)
  back_parts (j ∷ back) n i e = ap (λ k. after_gap back (child_at n k) ++ after_child n k) e

  -- a leaf's pairs on either side of a gap
  pub leaf_front : (front : List ℕ) (n : Node K V Z) → IsLeaf n → IsEnd 0 front n → before_gap front n ≡ take (get_or front 0 0) (own_pairs n)
  leaf_front [] n l e = refl
  leaf_front (i ∷ front) n l e =
      ap (λ p. before_child n i ++ before_gap p (child_at n i)) (nil_from_length front (let f = e.1 (omega arith) in omega arith))
      ∙ append-nil (before_child n i) ∙ ap (λ cs. before_list (map pairs_of cs) (take i (own_pairs n))) (ap (take i) (leaf_children n l) ∙ take_nil i)

  pub leaf_back : (back : List ℕ) (n : Node K V Z) → IsLeaf n → IsEnd 0 back n → after_gap back n ≡ drop (get_or back 0 (length (own_pairs n))) (own_pairs n)
  leaf_back [] n l e = sym (drop_all (own_pairs n) (length (own_pairs n)) (omega arith))
  leaf_back (j ∷ back) n l e =
      ap (λ p. after_gap p (child_at n j) ++ after_child n j) (nil_from_length back (let f = e.1 (omega arith) in omega arith))
      ∙ ap (λ cs. after_list (drop j (own_pairs n)) (map pairs_of cs)) (ap (drop (suc j)) (leaf_children n l) ∙ drop_nil (suc j))
      ∙ after_nothing (drop j (own_pairs n))

  -- the first path's steps are no later
  first_order : (h : ℕ) (n : Node K V Z) (i j : ℕ) (p q : List ℕ) → IsLevelled h n → IsPath (i ∷ p) n → IsPath (j ∷ q) n → length q ≡ h
      → length (before_gap (i ∷ p) n) ≤ length (before_gap (j ∷ q) n) → (i ≡ j → AreInOrder p q) → AreInOrder (i ∷ p) (j ∷ q)
  first_order h n i j p q l v w e le onward = go (cases_lt i j) (cases_lt j i)
    where
      go : (i < j) ⊎ (j ≤ i) → (j < i) ⊎ (i ≤ j) → AreInOrder (i ∷ p) (j ∷ q)
      go (inl a) b = inl a
      go (inr a) (inl b) = absurd (let c = earlier h n j i q p l b v.0 w.1 e in omega (arith, c, le))
      go (inr a) (inr b) = let s : i ≡ j = omega arith in inr (s, onward s)

  steps_order : (h : ℕ) (n : Node K V Z) (p q : List ℕ) → IsLevelled h n → IsPath p n → IsPath q n → length p ≡ h + 1 → length q ≡ h + 1
      → length (before_gap p n) ≤ length (before_gap q n) → AreInOrder p q
  steps_order h n [] q l v w e f le = tt
  steps_order h n (i ∷ p) [] l v w e f le = tt
  steps_order zero n (i ∷ p) (j ∷ q) l v w e f le =
      first_order zero n i j p q l v w (omega arith) le (λ _. subst (λ r. AreInOrder r q) (sym (nil_from_length p (omega arith))) tt)
  steps_order (suc h) n (i ∷ p) (j ∷ q) l v w e f le =
      first_order (suc h) n i j p q l v w (omega arith) le (λ s.
      let x = subst (λ k. IsPath q (child_at n k)) (sym s) w.1 in
      let y : length (before_gap (i ∷ p) n) ≤ length (before_gap (i ∷ q) n) =
      subst (λ k. length (before_gap (i ∷ p) n) ≤ length (before_gap (k ∷ q) n)) (sym s) le in
      let b = length-append (before_child n i) (before_gap p (child_at n i)) in
      let c = length-append (before_child n i) (before_gap q (child_at n i)) in
      steps_order h (child_at n i) p q (child_below h n i l v.0).1 v.1 x (omega arith) (omega arith) (omega (arith, y, b, c)))

  -- the two ends in the root
  pub record AreEndsOf (h : ℕ) (root : Node K V Z) (front back : List ℕ) : Type 0 where
    pub front_end : IsEnd h front root
    pub back_end : IsEnd h back root
    pub order : AreInOrder front back

  pub ends_of : (h : ℕ) (root : Node K V Z) (front back : List ℕ) → IsLevelled h root → AreEndsIn (Some root) front back → AreEndsOf h root front back
  ends_of h root front back l e = record {
    front_end = (e.0.0, λ q. e.0.1 h l);
    back_end = (e.1.0, λ q. e.1.1 h l);
    order = steps_order h root front back l e.0.0 e.1.0 (e.0.1 h l) (e.1.1 h l) e.2;
  }
