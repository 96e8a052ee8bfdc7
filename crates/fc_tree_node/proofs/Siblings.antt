-- What a trade between two neighbouring children, or their merge, leaves of all pairs and of the levels.
use Rattle.std.proofs.Common.{◌≡◌, ℕ, suc, zero, ◌+◌, ◌<◌, ◌≤◌, List, [], ◌∷◌, ◌++◌, length, get_or, map, take, drop, refl, sym, subst, ap, ◌∙◌, arith}
use Rattle.std.proofs.Common.{append_assoc, length-append, add-one, inl, inr}
use Rattle.std.specs.Prelude.{slice_set}
use Rattle.std.specs.List.{AllByRecursion, remove}
use Rattle.std.proofs.lemmas.List.{length-map, map-append}
use Rattle.std.proofs.lemmas.List.Edits.{length-remove}
use Rattle.fc_base.specs.Sizes.{capacity, min_len}
use Rattle.fc_tree_node.specs.Weave.{weave, before_list, after_list}
use Rattle.fc_tree_node.specs.declared.node.Node.{Node}
use Rattle.fc_tree_node.specs.Node.{own_pairs, children_of, child_at, pairs_of, IsInner, IsLevelled}
use Rattle.fc_tree_node.specs.Siblings.{AreAlike, IsMerged, IsShared}
use Rattle.fc_tree_node.proofs.Lists.{set_is, length_set, length_take, all_front, all_back, all_both}
use Rattle.fc_tree_node.proofs.Weaves.{weave_at, weave_parts}
use Rattle.fc_tree_node.proofs.Pairs.{pairs_is, leaf_pairs, leaf_children, IsBelow}
use Rattle.fc_tree_node.proofs.Formed.{leaf_or_inner}

module _ {X : Type 0} where
  -- a list as what stands around a place, and around two
  pub one_at : (xs : List X) (i : ℕ) (d : X) → i < length xs → xs ≡ take i xs ++ get_or xs i d ∷ drop (suc i) xs
  one_at [] i d h = absurd (omega arith)
  one_at (x ∷ xs) zero d h = refl
  one_at (x ∷ xs) (suc i) d h = ap (λ zs. x ∷ zs) (one_at xs i d (omega arith))

  two_suc : (xs : List X) (i : ℕ) (d : X) → suc i < length xs → xs ≡ take i xs ++ get_or xs i d ∷ get_or xs (suc i) d ∷ drop (suc (suc i)) xs
  two_suc [] i d h = absurd (omega arith)
  two_suc (x ∷ []) i d h = absurd (omega arith)
  two_suc (x ∷ y ∷ xs) zero d h = refl
  two_suc (x ∷ y ∷ xs) (suc i) d h = ap (λ zs. x ∷ zs) (two_suc (y ∷ xs) i d (omega arith))

  pub two_at : (xs : List X) (i : ℕ) (d : X) → i + 1 < length xs → xs ≡ take i xs ++ get_or xs i d ∷ get_or xs (i + 1) d ∷ drop (suc (suc i)) xs
  two_at xs i d h = two_suc xs i d (rw add-one at h) ∙ ap (λ j. take i xs ++ get_or xs i d ∷ get_or xs j d ∷ drop (suc (suc i)) xs) (sym (add-one i))

  set_two_suc : (xs : List X) (i : ℕ) (x y : X) → suc i < length xs → slice_set (slice_set xs i x) (suc i) y ≡ take i xs ++ x ∷ y ∷ drop (suc (suc i)) xs
  set_two_suc [] i x y h = absurd (omega arith)
  set_two_suc (a ∷ []) i x y h = absurd (omega arith)
  set_two_suc (a ∷ b ∷ xs) zero x y h = refl
  set_two_suc (a ∷ b ∷ xs) (suc i) x y h = ap (λ zs. a ∷ zs) (set_two_suc (b ∷ xs) i x y (omega arith))

  pub set_two : (xs : List X) (i : ℕ) (x y : X) → i + 1 < length xs → slice_set (slice_set xs i x) (i + 1) y ≡ take i xs ++ x ∷ y ∷ drop (suc (suc i)) xs
  set_two xs i x y h = ap (λ j. slice_set (slice_set xs i x) j y) (add-one i) ∙ set_two_suc xs i x y (rw add-one at h)

  pub remove_is : (xs : List X) (i : ℕ) → i < length xs → remove xs i ≡ take i xs ++ drop (suc i) xs
  remove_is [] i h = absurd (omega arith)
  remove_is (x ∷ xs) zero h = refl
  remove_is (x ∷ xs) (suc i) h = ap (λ zs. x ∷ zs) (remove_is xs i (omega arith))

  set_removed_suc : (xs : List X) (i : ℕ) (x : X) → suc i < length xs → slice_set (remove xs (suc i)) i x ≡ take i xs ++ x ∷ drop (suc (suc i)) xs
  set_removed_suc [] i x h = absurd (omega arith)
  set_removed_suc (a ∷ []) i x h = absurd (omega arith)
  set_removed_suc (a ∷ b ∷ xs) zero x h = refl
  set_removed_suc (a ∷ b ∷ xs) (suc i) x h = ap (λ zs. a ∷ zs) (set_removed_suc (b ∷ xs) i x (omega arith))

  pub set_removed : (xs : List X) (i : ℕ) (x : X) → i + 1 < length xs → slice_set (remove xs (i + 1)) i x ≡ take i xs ++ x ∷ drop (suc (suc i)) xs
  set_removed xs i x h = ap (λ j. slice_set (remove xs j) i x) (add-one i) ∙ set_removed_suc xs i x (rw add-one at h)

module _ {K V Z : Type 0} where
  -- two nodes and a pair between them hold what one node of both their parts would
  pub joined_pairs : (l r : Node K V Z) (s : K × V) → AreAlike l r → pairs_of l ++ s ∷ pairs_of r
      ≡ weave (map pairs_of (children_of l ++ children_of r)) (own_pairs l ++ s ∷ own_pairs r)
  joined_pairs l r s (inl a) =
      ap (λ ps. ps ++ s ∷ pairs_of r) (leaf_pairs l a.0) ∙ ap (λ ps. own_pairs l ++ s ∷ ps) (leaf_pairs r a.1)
      ∙ sym (ap (λ cs. weave (map pairs_of (cs ++ children_of r)) (own_pairs l ++ s ∷ own_pairs r)) (leaf_children l a.0)
      ∙ ap (λ cs. weave (map pairs_of cs) (own_pairs l ++ s ∷ own_pairs r)) (leaf_children r a.1))
  joined_pairs l r s (inr a) =
      let m : length (map pairs_of (children_of l)) ≡ length (own_pairs l) + 1 = length-map (children_of l) pairs_of ∙ a.0 in
      let k₁ = length-map (children_of r) pairs_of in
      let k : 0 < length (map pairs_of (children_of r)) = omega arith in
      ap (λ ps. ps ++ s ∷ pairs_of r) (pairs_is l) ∙ ap (λ ps. weave (map pairs_of (children_of l)) (own_pairs l) ++ s ∷ ps) (pairs_is r)
      ∙ sym (weave_parts (map pairs_of (children_of l)) (map pairs_of (children_of r)) (own_pairs l) s (own_pairs r) m k)
      ∙ ap (λ cs. weave cs (own_pairs l ++ s ∷ own_pairs r)) (sym (map-append pairs_of (children_of l) (children_of r)))

  -- all pairs, around a child
  pub around_one : (n c : Node K V Z) (A D : List (Node K V Z)) (P Q : List (K × V)) → children_of n ≡ A ++ c ∷ D → own_pairs n ≡ P ++ Q → length A ≡ length P
      → pairs_of n ≡ before_list (map pairs_of A) P ++ (pairs_of c ++ after_list Q (map pairs_of D))
  around_one n c A D P Q e f h =
      pairs_is n ∙ ap (λ cs. weave (map pairs_of cs) (own_pairs n)) e ∙ ap (λ ps. weave (map pairs_of (A ++ c ∷ D)) ps) f
      ∙ ap (λ cs. weave cs (P ++ Q)) (map-append pairs_of A (c ∷ D))
      ∙ weave_at (map pairs_of A) (pairs_of c) (map pairs_of D) P Q (length-map A pairs_of ∙ h)

  -- all pairs, around two children and the pair between them
  pub around_two : (n l r : Node K V Z) (s : K × V) (A D : List (Node K V Z)) (P Q : List (K × V)) → children_of n ≡ A ++ l ∷ r ∷ D → own_pairs n ≡ P ++ s ∷ Q
      → length A ≡ length P
      → pairs_of n ≡ before_list (map pairs_of A) P ++ ((pairs_of l ++ s ∷ pairs_of r) ++ after_list Q (map pairs_of D))
  around_two n l r s A D P Q e f h =
      around_one n l A (r ∷ D) P (s ∷ Q) e f h ∙ ap (λ ps. before_list (map pairs_of A) P ++ ps) (sym (append_assoc (pairs_of l) (s ∷ pairs_of r) _))

  pub whole_level : (k : ℕ) (l r w : Node K V Z) → IsLevelled k l → IsLevelled k r → children_of w ≡ children_of l ++ children_of r → AreAlike l w
      → length (own_pairs w) ≤ capacity → IsLevelled k w
  whole_level zero l r w a b e (inl x) h = (h, x.1)
  whole_level zero l r w a b e (inr x) h = absurd (leaf_or_inner l a.1 x.0)
  whole_level (suc k) l r w a b e (inl x) h = absurd (leaf_or_inner l x.0 a.1)
  whole_level (suc k) l r w a b e (inr x) h = (
    h,
    x.1,
    subst (AllByRecursion (IsBelow k)) (sym e)
        (all_both (IsBelow k) (children_of l) (children_of r) a.2 b.2),
  )

  pub both_levels : (k : ℕ) (l r l' r' : Node K V Z) → IsLevelled k l → IsLevelled k r → children_of l' ++ children_of r' ≡ children_of l ++ children_of r
      → AreAlike l l' → AreAlike l' r'
      → length (own_pairs l') ≤ capacity → length (own_pairs r') ≤ capacity → IsLevelled k l' × IsLevelled k r'
  both_levels k l r l' r' a b e (inl x) (inr y) h₁ h₂ = absurd (leaf_or_inner l' x.1 y.0)
  both_levels k l r l' r' a b e (inr x) (inl y) h₁ h₂ = absurd (leaf_or_inner l' y.0 x.1)
  both_levels zero l r l' r' a b e (inl x) (inl y) h₁ h₂ = ((h₁, y.0), (h₂, y.1))
  both_levels (suc k) l r l' r' a b e (inl x) (inl y) h₁ h₂ = absurd (leaf_or_inner l x.0 a.1)
  both_levels zero l r l' r' a b e (inr x) (inr y) h₁ h₂ = absurd (leaf_or_inner l a.1 x.0)
  both_levels (suc k) l r l' r' a b e (inr x) (inr y) h₁ h₂ =
      let all = subst (AllByRecursion (IsBelow k)) (sym e) (all_both (IsBelow k) (children_of l) (children_of r) a.2 b.2) in
      ((h₁, y.0, all_front (IsBelow k) (children_of l') (children_of r') all), (h₂, y.1, all_back (IsBelow k) (children_of l') (children_of r') all))

  module _ (old : Node K V Z) (i : ℕ) (inner : IsInner old) (h : i < length (own_pairs old)) where
    abbrev L : Node K V Z
    L = child_at old i

    abbrev R : Node K V Z
    R = child_at old (i + 1)

    lengths : length (take i (children_of old)) ≡ length (take i (own_pairs old))
    lengths =
        let n : length (children_of old) ≡ length (own_pairs old) + 1 = inner in
        let k : i ≤ length (children_of old) = omega arith in
        let m : i ≤ length (own_pairs old) = omega arith in
        length_take i (children_of old) k ∙ sym (length_take i (own_pairs old) m)

    next : i + 1 < length (children_of old)
    next = let n : length (children_of old) ≡ length (own_pairs old) + 1 = inner in omega arith

    pub old_pairs : (d : K × V) → pairs_of old ≡ before_list (map pairs_of (take i (children_of old))) (take i (own_pairs old))
        ++ ((pairs_of L ++ get_or (own_pairs old) i d ∷ pairs_of R) ++ after_list (drop (suc i) (own_pairs old))
        (map pairs_of (drop (suc (suc i)) (children_of old))))
    old_pairs d = around_two old L R (get_or (own_pairs old) i d) _ _ _ _ (two_at (children_of old) i old next) (one_at (own_pairs old) i d h) lengths

    pub shared_pairs : (n : ℕ) (new : Node K V Z) → AreAlike L R → IsShared i n old new → pairs_of new ≡ pairs_of old
    shared_pairs n new alike s =
        let e = joined_pairs s.left s.right s.between s.alike ∙ ap (λ cs. weave (map pairs_of cs) (own_pairs s.left ++ s.between ∷ own_pairs s.right)) s.below
        ∙ ap (λ ps. weave (map pairs_of (children_of L ++ children_of R)) ps) (s.own s.between)
        ∙ sym (joined_pairs L R (get_or (own_pairs old) i s.between) alike) in
        around_two new s.left s.right s.between _ _ _ _ (s.children ∙ set_two (children_of old) i s.left s.right next)
        (s.pairs ∙ set_is (own_pairs old) i s.between h) lengths
        ∙ ap (λ ps. before_list (map pairs_of (take i (children_of old))) (take i (own_pairs old))
        ++ (ps ++ after_list (drop (suc i) (own_pairs old)) (map pairs_of (drop (suc (suc i)) (children_of old))))) e
        ∙ sym (old_pairs s.between)

    pub merged_pairs : (new : Node K V Z) (d : K × V) → AreAlike L R → IsMerged i old new → pairs_of new ≡ pairs_of old
    merged_pairs new d alike s =
        let e = pairs_is s.whole ∙ ap (λ cs. weave (map pairs_of cs) (own_pairs s.whole)) s.below
        ∙ ap (λ ps. weave (map pairs_of (children_of L ++ children_of R)) ps) (s.own d) ∙ sym (joined_pairs L R (get_or (own_pairs old) i d) alike) in
        around_one new s.whole _ _ _ _ (s.children ∙ set_removed (children_of old) i s.whole next) (s.pairs ∙ remove_is (own_pairs old) i h) lengths
        ∙ ap (λ ps. before_list (map pairs_of (take i (children_of old))) (take i (own_pairs old))
        ++ (ps ++ after_list (drop (suc i) (own_pairs old)) (map pairs_of (drop (suc (suc i)) (children_of old))))) e
        ∙ sym (old_pairs d)

    pub shared_inner : (n : ℕ) (new : Node K V Z) → IsShared i n old new → IsInner new
    shared_inner n new s =
        let a : length (own_pairs new) ≡ length (own_pairs old) = ap length s.pairs ∙ length_set (own_pairs old) i s.between in
        let b : length (children_of new) ≡ length (children_of old) = ap length s.children ∙ length_set (slice_set (children_of old) i s.left) (i + 1) s.right
        ∙ length_set (children_of old) i s.left in
        let n : length (children_of old) ≡ length (own_pairs old) + 1 = inner in
        omega arith

    pub merged_inner : (new : Node K V Z) → IsMerged i old new → IsInner new
    merged_inner new s =
        let a : length (own_pairs new) + 1 ≡ length (own_pairs old) = ap (λ ps. length ps + 1) s.pairs ∙ length-remove (own_pairs old) i h in
        let b₀ : length (children_of new) ≡ length (remove (children_of old) (i + 1)) = ap length s.children
        ∙ length_set (remove (children_of old) (i + 1)) i s.whole in
        let b : length (remove (children_of old) (i + 1)) + 1 ≡ length (children_of old) = length-remove (children_of old) (i + 1) next in
        let n : length (children_of old) ≡ length (own_pairs old) + 1 = inner in
        omega arith

    -- the other children, before and after the two
    abbrev pub OthersBelow : ℕ → Type 0
    OthersBelow k = AllByRecursion (IsBelow k) (take i (children_of old)) × AllByRecursion (IsBelow k) (drop (suc (suc i)) (children_of old))

    -- the node is levelled once both of the two have as many pairs as a node below the root
    pub shared_levels : (k n : ℕ) (new : Node K V Z) → length (own_pairs old) ≤ capacity → OthersBelow k → IsLevelled k L → IsLevelled k R
        → IsShared i n old new
        → min_len ≤ n → n ≤ capacity → n + min_len ≤ length (own_pairs L) + length (own_pairs R) → length (own_pairs L) + length (own_pairs R) ≤ n + capacity
        → IsLevelled (suc k) new
    shared_levels k n new fits others l r s m₁ m₂ m₃ m₄ =
        let p : length (own_pairs new) ≡ length (own_pairs old) = ap length s.pairs ∙ length_set (own_pairs old) i s.between in
        let q : length (own_pairs s.left ++ s.between ∷ own_pairs s.right) ≡ length (own_pairs L ++ get_or (own_pairs old) i s.between ∷ own_pairs R) =
        ap length (s.own s.between) in
        let a = length-append (own_pairs s.left) (s.between ∷ own_pairs s.right) in
        let b = length-append (own_pairs L) (get_or (own_pairs old) i s.between ∷ own_pairs R) in
        let c = both_levels k L R s.left s.right l r s.below s.alike_before s.alike (omega arith) (omega arith) in (
          omega arith,
          shared_inner n new s,
          subst (AllByRecursion (IsBelow k)) (sym (s.children ∙ set_two (children_of old) i s.left s.right next))
              (all_both (IsBelow k) (take i (children_of old)) _ others.0 ((omega arith, c.0), ((omega arith, c.1), others.1))),
        )

    pub merged_levels : (k : ℕ) (new : Node K V Z) (d : K × V) → length (own_pairs old) ≤ capacity → OthersBelow k → IsLevelled k L → IsLevelled k R
        → IsMerged i old new
        → min_len ≤ length (own_pairs L) + length (own_pairs R) + 1 → length (own_pairs L) + length (own_pairs R) + 1 ≤ capacity → IsLevelled (suc k) new
    merged_levels k new d fits others l r s m₁ m₂ =
        let p : length (own_pairs new) + 1 ≡ length (own_pairs old) = ap (λ ps. length ps + 1) s.pairs ∙ length-remove (own_pairs old) i h in
        let q : length (own_pairs s.whole) ≡ length (own_pairs L ++ get_or (own_pairs old) i d ∷ own_pairs R) = ap length (s.own d) in
        let b = length-append (own_pairs L) (get_or (own_pairs old) i d ∷ own_pairs R) in
        let c = whole_level k L R s.whole l r s.below s.alike (omega arith) in (
          omega arith,
          merged_inner new s,
          subst (AllByRecursion (IsBelow k)) (sym (s.children ∙ set_removed (children_of old) i s.whole next))
              (all_both (IsBelow k) (take i (children_of old)) _ others.0 ((omega arith, c), others.1)),
        )
