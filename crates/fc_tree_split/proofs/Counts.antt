-- The number of pairs of a node and of those below it.
use Rattle.std.proofs.Common.{◌≡◌, ℕ, zero, suc, ◌+◌, ◌<◌, ◌≤◌, List, [], ◌∷◌, length, get_or, map, take, refl, ap, ◌∙◌, arith, length-append, add-one}
use Rattle.std.proofs.lemmas.List.{length-map}
use Rattle.fc_tree_node.specs.Weave.{weave, after_list}
use Rattle.fc_tree_node.specs.declared.node.Node.{Node}
use Rattle.fc_tree_node.specs.Node.{own_pairs, children_of, child_at, pairs_of, IsLevelled}
use Rattle.fc_tree_node.proofs.Gaps.{step_levels}
use Rattle.fc_tree_node.specs.Measures.{height_of}
use Rattle.fc_tree_node.proofs.MeasureFacts.{levelled_height}
use Rattle.fc_tree_node.proofs.Pairs.{pairs_is, leaf_pairs, leaf_children}

module _ {X : Type 0} where
  abbrev all_of : List (List X) → ℕ
  all_of [] = 0
  all_of (c ∷ cs) = length c + all_of cs

  length_after : (ps : List X) (cs : List (List X)) → length cs ≡ length ps → length (after_list ps cs) ≡ length ps + all_of cs
  length_after [] [] e = refl
  length_after [] (c ∷ cs) e = absurd (omega arith)
  length_after (p ∷ ps) [] e = absurd (omega arith)
  length_after (p ∷ ps) (c ∷ cs) e = let i = length_after ps cs (omega arith) in omega (arith, length-append c (after_list ps cs))

  length_weave : (cs : List (List X)) (ps : List X) → length cs ≡ length ps + 1 → length (weave cs ps) ≡ length ps + all_of cs
  length_weave [] ps e = absurd (omega arith)
  length_weave (c ∷ cs) ps e = let i = length_after ps cs (omega arith) in omega (arith, length-append c (after_list ps cs))

module _ {K V Z : Type 0} where
  -- how many pairs the nodes hold with those below them
  abbrev pub pairs_in : List (Node K V Z) → ℕ
  pairs_in [] = 0
  pairs_in (c ∷ cs) = length (pairs_of c) + pairs_in cs

  all_in : (cs : List (Node K V Z)) → all_of (map pairs_of cs) ≡ pairs_in cs
  all_in [] = refl
  all_in (c ∷ cs) = ap (λ k. length (pairs_of c) + k) (all_in cs)

  pub counted : (h : ℕ) (n : Node K V Z) → IsLevelled h n → length (pairs_of n) ≡ length (own_pairs n) + pairs_in (children_of n)
  counted zero n l = let z = ap pairs_in (leaf_children n l.1) in ap length (leaf_pairs n l.1) ∙ omega arith
  counted (suc h) n l =
      let e : length (children_of n) ≡ length (own_pairs n) + 1 = l.1 in
      let w = length_weave (map pairs_of (children_of n)) (own_pairs n) (length-map (children_of n) pairs_of ∙ e) in
      ap length (pairs_is n) ∙ w ∙ ap (λ k. length (own_pairs n) + k) (all_in (children_of n))

  next_in : (cs : List (Node K V Z)) (i : ℕ) (d : Node K V Z) → i < length cs
      → (pairs_in (take (suc i) cs) ≡ pairs_in (take i cs) + length (pairs_of (get_or cs i d))) × (pairs_in (take (suc i) cs) ≤ pairs_in cs)
  next_in [] i d h = absurd (omega arith)
  next_in (c ∷ cs) zero d h = (omega arith, omega arith)
  next_in (c ∷ cs) (suc i) d h = let r = next_in cs i d (omega arith) in (omega arith, omega arith)

  pub counted_more : (cs : List (Node K V Z)) (i : ℕ) (d : Node K V Z) → i < length cs
      → (pairs_in (take (i + 1) cs) ≡ pairs_in (take i cs) + length (pairs_of (get_or cs i d))) × (pairs_in (take (i + 1) cs) ≤ pairs_in cs)
  counted_more cs i d h = rw add-one (next_in cs i d h)

  pub counted_all : (cs : List (Node K V Z)) (i : ℕ) → i ≡ length cs → pairs_in (take i cs) ≡ pairs_in cs
  counted_all [] zero e = refl
  counted_all [] (suc i) e = absurd (omega arith)
  counted_all (c ∷ cs) zero e = absurd (omega arith)
  counted_all (c ∷ cs) (suc i) e = ap (λ k. length (pairs_of c) + k) (counted_all cs i (omega arith))

  -- a child that is counted next
  pub record IsNext (n : Node K V Z) (i : ℕ) : Type 0 where
    pub below : ℕ
    pub levels : IsLevelled below (child_at n i)
    pub lower : height_of (child_at n i) < height_of n
    pub more : pairs_in (take (i + 1) (children_of n)) ≡ pairs_in (take i (children_of n)) + length (pairs_of (child_at n i))
    pub fits : length (own_pairs n) + pairs_in (take (i + 1) (children_of n)) ≤ length (pairs_of n)

  pub next_child : (h : ℕ) (n : Node K V Z) (i : ℕ) → IsLevelled h n → i < length (children_of n) → IsNext n i
  next_child h n i l lt =
      let s = step_levels h n i l lt in
      let x = levelled_height h n l in
      let y = levelled_height s.0 (child_at n i) s.2 in
      let m = counted_more (children_of n) i n lt in
      let fits = m.1 in
      let all = counted h n l in
      record { below = s.0; levels = s.2; lower = omega arith; more = m.0; fits = omega arith }
