-- Children of which the one on the border may be short, taken apart and put together.
use Rattle.std.proofs.Common.{◌≡◌, ℕ, zero, suc, ◌+◌, ◌<◌, ◌≤◌, List, [], ◌∷◌, ◌++◌, length, get_or, take, drop, refl, sym, ap, subst, ◌∙◌, arith}
use Rattle.std.proofs.Common.{length-append, inl, inr}
use Rattle.std.specs.List.{AllByRecursion}
use Rattle.std.proofs.lemmas.List.{nil_from_length}
use Rattle.fc_base.specs.Sizes.{capacity}
use Rattle.fc_tree_node.specs.declared.node.Node.{Node}
use Rattle.fc_tree_node.specs.Node.{own_pairs, children_of, child_at, IsLeaf, IsInner, IsLevelled, IsSound}
use Rattle.fc_tree_node.specs.Bordered.{FirstThen, LastAfter, IsLeftBordered, IsRightBordered}
use Rattle.fc_tree_node.specs.Siblings.{AreAlike}
use Rattle.fc_tree_node.proofs.Lists.{all_both, all_front, all_back}
use Rattle.fc_tree_node.proofs.Formed.{leaf_or_inner}
use Rattle.fc_tree_split.specs.Border.{IsBordered, border_place}
use Rattle.fc_tree_split.specs.declared.rebalancing.Border.{Border}
use Rattle.fc_tree_split.specs.declared.rebalancing.Border.TheVariants.{Left, Right}

module _ {X : Type 0} (P Q : X → Type 0) where
  pub first_join : (xs ys : List X) → 0 < length xs → FirstThen P Q xs → AllByRecursion Q ys → FirstThen P Q (xs ++ ys)
  first_join [] ys h a b = absurd (omega arith)
  first_join (x ∷ xs) ys h a b = (a.0, all_both Q xs ys a.1 b)

  pub first_split : (xs ys : List X) → 0 < length xs → FirstThen P Q (xs ++ ys) → FirstThen P Q xs × AllByRecursion Q ys
  first_split [] ys h a = absurd (omega arith)
  first_split (x ∷ xs) ys h a = ((a.0, all_front Q xs ys a.1), all_back Q xs ys a.1)

  pub last_join : (xs ys : List X) → 0 < length ys → AllByRecursion Q xs → LastAfter P Q ys → LastAfter P Q (xs ++ ys)
  last_join [] ys h a b = b
  last_join (x ∷ []) [] h a b = absurd (omega arith)
  last_join (x ∷ []) (y ∷ ys) h a b = (a.0, b)
  last_join (x ∷ y ∷ xs) ys h a b = (a.0, last_join (y ∷ xs) ys h a.1 b)

  pub last_split : (xs ys : List X) → 0 < length ys → LastAfter P Q (xs ++ ys) → AllByRecursion Q xs × LastAfter P Q ys
  last_split [] ys h a = (tt, a)
  last_split (x ∷ []) [] h a = absurd (omega arith)
  last_split (x ∷ []) (y ∷ ys) h a = ((a.0, tt), a.1)
  last_split (x ∷ y ∷ xs) ys h a = let r = last_split (y ∷ xs) ys h a.1 in ((a.0, r.0), r.1)

  first_of_all : (xs : List X) → ((x : X) → Q x → P x) → AllByRecursion Q xs → FirstThen P Q xs
  first_of_all [] f a = tt
  first_of_all (x ∷ xs) f a = (f x a.0, a.1)

  last_of_all : (xs : List X) → ((x : X) → Q x → P x) → AllByRecursion Q xs → LastAfter P Q xs
  last_of_all [] f a = tt
  last_of_all (x ∷ []) f a = f x a.0
  last_of_all (x ∷ y ∷ xs) f a = (a.0, last_of_all (y ∷ xs) f a.1)

module _ {X : Type 0} where
  pub at_end : (A : List X) (c : X) (D : List X) (i : ℕ) (d : X) → length A ≡ i → get_or (A ++ c ∷ D) i d ≡ c
  at_end [] c D zero d e = refl
  at_end [] c D (suc i) d e = absurd (omega arith)
  at_end (a ∷ A) c D zero d e = absurd (omega arith)
  at_end (a ∷ A) c D (suc i) d e = at_end A c D i d (omega arith)

module _ {K V Z : Type 0} where
  -- what a node is, on the left and on the right of the two that the border and its sibling are
  abbrev pub LeftOf : Border → ℕ → Node K V Z → Type 0
  LeftOf Left = IsLeftBordered
  LeftOf Right = IsLevelled

  abbrev pub RightOf : Border → ℕ → Node K V Z → Type 0
  RightOf Left = IsLevelled
  RightOf Right = IsRightBordered

  -- a sound border is one that may be short
  pub levelled_bordered : (s : Border) (h : ℕ) (n : Node K V Z) → IsLevelled h n → IsBordered s h n
  levelled_bordered Left zero n l = l
  levelled_bordered Right zero n l = l
  levelled_bordered Left (suc h) n l = (l.0, l.1, first_of_all (IsLeftBordered h) (IsSound h) (children_of n) (λ c s. levelled_bordered Left h c s.1) l.2)
  levelled_bordered Right (suc h) n l = (l.0, l.1, last_of_all (IsRightBordered h) (IsSound h) (children_of n) (λ c s. levelled_bordered Right h c s.1) l.2)

  pub leaf_alike : (n m : Node K V Z) → IsLeaf n → AreAlike n m → IsLeaf m
  leaf_alike n m l (inl a) = a.1
  leaf_alike n m l (inr a) = absurd (leaf_or_inner n l a.0)

  pub inner_alike : (n m : Node K V Z) → IsInner n → AreAlike n m → IsInner m
  inner_alike n m i (inl a) = absurd (leaf_or_inner n a.0 i)
  inner_alike n m i (inr a) = a.1

  some_child : (n : Node K V Z) → IsInner n → 0 < length (children_of n)
  some_child n i = let e : length (children_of n) ≡ length (own_pairs n) + 1 = i in omega arith

  pub sides_alike : (s : Border) (h : ℕ) (l r : Node K V Z) → LeftOf s h l → RightOf s h r → AreAlike l r
  sides_alike Left zero l r a b = inl (a.1, b.1)
  sides_alike Right zero l r a b = inl (a.1, b.1)
  sides_alike Left (suc h) l r a b = inr (a.1, b.1)
  sides_alike Right (suc h) l r a b = inr (a.1, b.1)

  -- two neighbours made one
  pub side_whole : (s : Border) (h : ℕ) (l r w : Node K V Z) → LeftOf s h l → RightOf s h r → children_of w ≡ children_of l ++ children_of r → AreAlike l w
      → length (own_pairs w) ≤ capacity → IsBordered s h w
  side_whole Left zero l r w a b e x le = (le, leaf_alike l w a.1 x)
  side_whole Right zero l r w a b e x le = (le, leaf_alike l w a.1 x)
  side_whole Left (suc h) l r w a b e x le = (
    le,
    inner_alike l w a.1 x,
    subst (FirstThen (IsLeftBordered h) (IsSound h)) (sym e)
        (first_join (IsLeftBordered h) (IsSound h) (children_of l) (children_of r) (some_child l a.1) a.2 b.2),
  )
  side_whole Right (suc h) l r w a b e x le = (
    le,
    inner_alike l w a.1 x,
    subst (LastAfter (IsRightBordered h) (IsSound h)) (sym e)
        (last_join (IsRightBordered h) (IsSound h) (children_of l) (children_of r) (some_child r b.1) a.2 b.2),
  )

  -- two neighbours of which one took from the other
  pub side_both : (s : Border) (h : ℕ) (l r l' r' : Node K V Z) → LeftOf s h l → RightOf s h r
      → children_of l' ++ children_of r' ≡ children_of l ++ children_of r → AreAlike l l' → AreAlike l' r'
      → length (own_pairs l') ≤ capacity → length (own_pairs r') ≤ capacity → LeftOf s h l' × RightOf s h r'
  side_both Left zero l r l' r' a b e x y m n = let i = leaf_alike l l' a.1 x in ((m, i), (n, leaf_alike l' r' i y))
  side_both Right zero l r l' r' a b e x y m n = let i = leaf_alike l l' a.1 x in ((m, i), (n, leaf_alike l' r' i y))
  side_both Left (suc h) l r l' r' a b e x y m n =
      let i = inner_alike l l' a.1 x in
      let t = first_split (IsLeftBordered h) (IsSound h) (children_of l') (children_of r') (some_child l' i)
      (subst (FirstThen (IsLeftBordered h) (IsSound h)) (sym e) (first_join (IsLeftBordered h) (IsSound h) (children_of l) (children_of r) (some_child l a.1)
      a.2 b.2)) in
      ((m, i, t.0), (n, inner_alike l' r' i y, t.1))
  side_both Right (suc h) l r l' r' a b e x y m n =
      let i = inner_alike l l' a.1 x in
      let j = inner_alike l' r' i y in
      let t = last_split (IsRightBordered h) (IsSound h) (children_of l') (children_of r') (some_child r' j)
      (subst (LastAfter (IsRightBordered h) (IsSound h)) (sym e) (last_join (IsRightBordered h) (IsSound h) (children_of l) (children_of r) (some_child r b.1)
      a.2 b.2)) in
      ((m, i, t.0), (n, j, t.1))

  -- a node above the leaves, with the child on its border among sound ones
  pub record IsOpened (s : Border) (h : ℕ) (n : Node K V Z) : Type 0 where
    pub fits : length (own_pairs n) ≤ capacity
    pub inner : IsInner n
    pub there : border_place s n < length (children_of n)
    pub before : AllByRecursion (IsSound h) (take (border_place s n) (children_of n))
    pub child : IsBordered s h (child_at n (border_place s n))
    pub after : AllByRecursion (IsSound h) (drop (suc (border_place s n)) (children_of n))

  first_parts : (P Q : Node K V Z → Type 0) (cs : List (Node K V Z)) (d : Node K V Z) → 0 < length cs → FirstThen P Q cs
      → P (get_or cs 0 d) × AllByRecursion Q (drop 1 cs)
  first_parts P Q [] d h a = absurd (omega arith)
  first_parts P Q (c ∷ cs) d h a = a

  last_parts : (P Q : Node K V Z → Type 0) (cs : List (Node K V Z)) (i : ℕ) (d : Node K V Z) → length cs ≡ i + 1 → LastAfter P Q cs
      → AllByRecursion Q (take i cs) × P (get_or cs i d) × AllByRecursion Q (drop (suc i) cs)
  last_parts P Q [] i d h a = absurd (omega arith)
  last_parts P Q (c ∷ []) zero d h a = (tt, a, tt)
  last_parts P Q (c ∷ []) (suc i) d h a = absurd (omega arith)
  last_parts P Q (c ∷ b ∷ cs) zero d h a = absurd (omega arith)
  last_parts P Q (c ∷ b ∷ cs) (suc i) d h a = let r = last_parts P Q (b ∷ cs) i d (omega arith) a.1 in ((a.0, r.0), r.1, r.2)

  pub border_opened : (s : Border) (h : ℕ) (n : Node K V Z) → IsBordered s (suc h) n → IsOpened s h n
  border_opened Left h n b =
      let k = some_child n b.1 in
      let p = first_parts (IsLeftBordered h) (IsSound h) (children_of n) n k b.2 in
      record { fits = b.0; inner = b.1; there = k; before = tt; child = p.0; after = p.1 }
  border_opened Right h n b =
      let e : length (children_of n) ≡ length (own_pairs n) + 1 = b.1 in
      let p = last_parts (IsRightBordered h) (IsSound h) (children_of n) (length (own_pairs n)) n e b.2 in
      record { fits = b.0; inner = b.1; there = omega arith; before = p.0; child = p.1; after = p.2 }

  -- a node whose child on the border stands among sound ones
  pub border_closed : (s : Border) (h : ℕ) (n c : Node K V Z) (A D : List (Node K V Z)) → length (own_pairs n) ≤ capacity → IsInner n
      → children_of n ≡ A ++ c ∷ D
      → length A ≡ border_place s n
      → AllByRecursion (IsSound h) A → IsBordered s h c → AllByRecursion (IsSound h) D → IsBordered s (suc h) n
  border_closed Left h n c A D le i e k a b d =
      (le, i, subst (FirstThen (IsLeftBordered h) (IsSound h)) (sym (e ∙ ap (λ zs. zs ++ c ∷ D) (nil_from_length A k))) (b, d))
  border_closed Right h n c A D le i e k a b d =
      let m : length (children_of n) ≡ length (own_pairs n) + 1 = i in
      let t : length (children_of n) ≡ length A + suc (length D) = ap length e ∙ length-append A (c ∷ D) in
      let z : D ≡ [] = nil_from_length D (omega arith) in (
        le,
        i,
        subst (LastAfter (IsRightBordered h) (IsSound h)) (sym (e ∙ ap (λ zs. A ++ c ∷ zs) z))
            (last_join (IsRightBordered h) (IsSound h) A (c ∷ []) (omega arith) a b),
      )

  pub child_here : (n c : Node K V Z) (A D : List (Node K V Z)) (i : ℕ) → children_of n ≡ A ++ c ∷ D → length A ≡ i → child_at n i ≡ c
  child_here n c A D i e k = ap (λ cs. get_or cs i n) e ∙ at_end A c D i n k
