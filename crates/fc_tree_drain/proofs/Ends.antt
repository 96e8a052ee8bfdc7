-- The first pair that is left of a tree that is taken apart, and when none is.
use Rattle.std.proofs.Common.{◌≡◌, ℕ, zero, suc, ◌+◌, ◌-◌, ◌<◌, List, [], ◌∷◌, ◌++◌, length, get_or, refl, sym, ap, ◌∙◌, arith, map, append_assoc}
use Rattle.std.proofs.Common.{append-nil, length-append}
use Rattle.std.proofs.lemmas.List.{nil_from_length}
use Rattle.fc_base.specs.Sizes.{most_levels}
use Rattle.fc_tree_node.specs.declared.node.Node.{Node}
use Rattle.fc_tree_node.specs.Node.{own_pairs, children_of, pairs_of}
use Rattle.fc_tree_node.specs.Weave.{before_list, after_list}
use Rattle.fc_tree_drain.specs.Opened.{closing, IsFalling, after_front_in, before_back_in, after_front, before_back}
use Rattle.fc_tree_drain.proofs.Opening.{front_push, top_some}

module _ {X : Type 0} where
  -- a list with an item at its last place
  last_split : (xs : List X) (n : ℕ) (x : X) → length xs ≡ n + 1 → x ≡ get_or xs n x → (front : List X) × (xs ≡ front ++ x ∷ [])
  last_split [] n x l e = absurd (omega arith)
  last_split (y ∷ []) zero x l e = ([], ap (λ z. z ∷ []) (sym e))
  last_split (y ∷ []) (suc n) x l e = absurd (omega arith)
  last_split (y ∷ z ∷ xs) zero x l e = absurd (omega arith)
  last_split (y ∷ z ∷ xs) (suc n) x l e = let i = last_split (z ∷ xs) n x (omega arith) e in (y ∷ i.0, ap (λ zs. y ∷ zs) i.1)

  -- a list with an item at its first place
  pub first_split : (xs : List X) (x : X) → 0 < length xs → x ≡ get_or xs 0 x → (rest : List X) × (xs ≡ x ∷ rest)
  first_split [] x h e = absurd (omega arith)
  first_split (y ∷ xs) x h e = (xs, ap (λ z. z ∷ xs) (sym e))

  after_some : (ps : List X) (cs : List (List X)) → 0 < length ps → 0 < length (after_list ps cs)
  after_some [] cs h = absurd (omega arith)
  after_some (p ∷ ps) [] h = omega arith
  after_some (p ∷ ps) (c ∷ cs) h = omega arith

  before_some : (cs : List (List X)) (ps : List X) → 0 < length ps → 0 < length (before_list cs ps)
  before_some [] ps h = h
  before_some (c ∷ cs) [] h = absurd (omega arith)
  before_some (c ∷ cs) (p ∷ ps) h = omega (arith, length-append c (p ∷ before_list cs ps))

  closing_some : (k : ℕ) (ps : List X) (cs : List (List X)) → 0 < length ps → 0 < length (closing k ps cs)
  closing_some zero ps cs h = before_some cs ps h
  closing_some (suc k) ps cs h = after_some ps cs h

  after_head : (p : X) (ps : List X) (cs : List (List X)) → (rest : List X) × (after_list (p ∷ ps) cs ≡ p ∷ rest)
  after_head p ps [] = (ps, refl)
  after_head p ps (c ∷ cs) = (c ++ after_list ps cs, refl)

  -- What the front took over is all that the back had.
  pub refilled_front : (new rest old r front back : List X) → new ++ rest ≡ old → old ++ r ≡ back → length front ≡ 0 → new ++ (rest ++ r) ≡ front ++ back
  refilled_front new rest old r front back e f h =
      sym (append_assoc new rest r) ∙ ap (λ zs. zs ++ r) e ∙ f ∙ ap (λ zs. zs ++ back) (sym (nil_from_length front h))

  pub refilled_back : (r rest new old front back : List X) → rest ++ new ≡ old → r ++ old ≡ front → length back ≡ 0 → (r ++ rest) ++ new ≡ front ++ back
  refilled_back r rest new old front back e f h =
      append_assoc r rest new ∙ ap (λ zs. r ++ zs) e ∙ f ∙ sym (append-nil front) ∙ ap (λ zs. front ++ zs) (sym (nil_from_length back h))

module _ {K V Z : Type 0} where
  pub front_some : (s : List (Node K V Z)) (low high : ℕ) → IsFalling low high s → 0 < length s → 0 < length (after_front s)
  front_some [] low high f h = absurd (omega arith)
  front_some (b ∷ s) low high f h =
      let k = after_some (own_pairs b) (map pairs_of (children_of b)) f.2 in
      omega (arith, length-append (after_front s) (after_front_in b))

  pub back_some : (s : List (Node K V Z)) (low high : ℕ) → IsFalling low high s → 0 < length s → 0 < length (before_back s)
  back_some [] low high f h = absurd (omega arith)
  back_some (b ∷ s) low high f h =
      let k = closing_some (length (own_pairs b) - length (children_of b)) (own_pairs b) (map pairs_of (children_of b)) f.2 in
      omega (arith, length-append (before_back_in b) (before_back s))

  -- Nothing is left just where no node is, and no pair of a leaf.
  pub none_front : (xs : List (K × V)) (s : List (Node K V Z)) → IsFalling 0 most_levels s → length (xs ++ after_front s) ≡ 0 → (xs ≡ []) × (length s ≡ 0)
  none_front xs [] f e = let a = length-append xs (after_front {K = K} {V = V} {Z = Z} []) in (nil_from_length xs (omega arith), refl)
  none_front xs (b ∷ s) f e = let a = length-append xs (after_front (b ∷ s)) in let k = front_some (b ∷ s) 0 most_levels f (omega arith) in absurd (omega arith)

  pub none_back : (s : List (Node K V Z)) (xs : List (K × V)) → IsFalling 0 most_levels s → length (before_back s ++ xs) ≡ 0 → (xs ≡ []) × (length s ≡ 0)
  none_back [] xs f e = (nil_from_length xs e, refl)
  none_back (b ∷ s) xs f e = let a = length-append (before_back (b ∷ s)) xs in let k = back_some (b ∷ s) 0 most_levels f (omega arith) in absurd (omega arith)

  -- What is left where no pair of a leaf is, is in nodes.
  pub nodes_there : (xs : List (K × V)) (s : List (Node K V Z)) (now : List (K × V)) → xs ++ after_front s ≡ now → 0 < length now → length xs ≡ 0 → 0 < length s
  nodes_there xs [] now e h z = let l = ap length (sym e) ∙ length-append xs (after_front {K = K} {V = V} {Z = Z} []) in absurd (omega arith)
  nodes_there xs (b ∷ s) now e h z = omega arith

  pub nodes_there_back : (s : List (Node K V Z)) (xs now : List (K × V)) → before_back s ++ xs ≡ now → 0 < length now → length xs ≡ 0 → 0 < length s
  nodes_there_back [] xs now e h z = let l = ap length e in absurd (omega arith)
  nodes_there_back (b ∷ s) xs now e h z = omega arith

  -- the node at the stack's last place has a pair
  pub top_has : (s : List (Node K V Z)) (n : ℕ) (b : Node K V Z) → IsFalling 0 most_levels s → length s ≡ n + 1 → b ≡ get_or s n b → 0 < length (own_pairs b)
  top_has s n b f l e = let t = last_split s n b l e in top_some s t.0 b f t.1

  -- and that pair stands first of all
  pub top_first : (s : List (Node K V Z)) (n : ℕ) (b : Node K V Z) (p : K × V) → IsFalling 0 most_levels s → length s ≡ n + 1 → b ≡ get_or s n b
      → p ≡ get_or (own_pairs b) 0 p → (rest : List (K × V)) × (after_front s ≡ p ∷ rest)
  top_first s n b p f l e q =
      let t = last_split s n b l e in
      let i = first_split (own_pairs b) p (top_some s t.0 b f t.1) q in
      let k = after_head p i.0 (map pairs_of (children_of b)) in (
        k.0 ++ after_front t.0,
        front_push t.0 s b t.1 ∙ ap (λ ps. after_list ps (map pairs_of (children_of b)) ++ after_front t.0) i.1
            ∙ ap (λ zs. zs ++ after_front t.0) k.1,
      )

  -- Where neither end has a node and one has no pair of a leaf, the ends exchange what is left of their leaves.
  pub exchanged : (xs ys : List (K × V)) (s t : List (Node K V Z)) → length s ≡ 0 → length t ≡ 0 → length ys ≡ 0
      → (ys ++ after_front s) ++ (before_back t ++ xs) ≡ (xs ++ after_front s) ++ (before_back t ++ ys)
  exchanged xs [] [] [] e f z = sym (append-nil (xs ++ []) ∙ append-nil xs)
  exchanged xs (y ∷ ys) s t e f z = absurd (omega arith)
  exchanged xs [] (b ∷ s) t e f z = absurd (omega arith)
  exchanged xs [] [] (b ∷ t) e f z = absurd (omega arith)

  -- What is left where no node is, is in a leaf.
  pub front_run : (xs : List (K × V)) (s : List (Node K V Z)) (now : List (K × V)) → xs ++ after_front s ≡ now → 0 < length now → length s ≡ 0 → 0 < length xs
  front_run xs [] now e h z = let l = ap length (sym e) ∙ length-append xs (after_front {K = K} {V = V} {Z = Z} []) in omega arith
  front_run xs (b ∷ s) now e h z = absurd (omega arith)

  pub back_run : (s : List (Node K V Z)) (xs now : List (K × V)) → before_back s ++ xs ≡ now → 0 < length now → length s ≡ 0 → 0 < length xs
  back_run [] xs now e h z = let l = ap length e in omega arith
  back_run (b ∷ s) xs now e h z = absurd (omega arith)
