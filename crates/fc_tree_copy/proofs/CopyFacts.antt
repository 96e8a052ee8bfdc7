-- A copy of a tree, made of copies of its parts.
use Rattle.std.proofs.Common.{◌≡◌, ◌⊎◌, ℕ, zero, suc, ◌+◌, ◌<◌, ◌≤◌, List, [], ◌∷◌, ◌++◌, length, map, take, get_or, Option, Some, None}
use Rattle.std.proofs.Common.{refl, sym, ap, ◌∙◌, subst, inl, inr, arith}
use Rattle.std.specs.List.{All, Any, AllZip, AllByRecursion}
use Rattle.std.proofs.lemmas.List.{get_or_default, take_all, length-take-le, length-map}
use Rattle.std.proofs.lemmas.List.Elements.{length_all_zip, all_zip_more, All-from_recursion, recursion_from_All}
use Rattle.fc_base.specs.Sizes.{min_len}
use Rattle.fc_tree_node.specs.Weave.{after_list, weave}
use Rattle.fc_tree_node.specs.declared.node.Node.{Node, out-Node, roll-Node}
use Rattle.fc_tree_node.specs.Node.{own_pairs, children_of, child_at, pairs_of, IsLeaf, IsLevelled}
use Rattle.fc_tree_node.proofs.Lists.{all_front, all_back, all_at}
use Rattle.fc_tree_node.proofs.Made.{own_made, children_made, field_made}
use Rattle.fc_tree_node.proofs.Pairs.{IsBelow, pairs_is, leaf_children}
use Rattle.fc_base.specs.declared.try_reserve_error.TryReserveError.{TryReserveError}
use Rattle.fc_tree_node.specs.Blocks.{blocks_alone}
use Rattle.fc_tree_copy.specs.Copy.{IsCopy, IsCopyUpTo, MayRefuseNodes}
use Rattle.fc_tree_node.proofs.BlockFacts.{all_blocks, blocks_are, alone_leaf, alone_inner}

module _ {X : Type 0} (R : X → X → Type 0) where
  zip_append : (xs us ys vs : List X) → AllZip R xs ys → AllZip R us vs → AllZip R (xs ++ us) (ys ++ vs)
  zip_append [] us [] vs a b = b
  zip_append [] us (y ∷ ys) vs a b = absurd a
  zip_append (x ∷ xs) us [] vs a b = absurd a
  zip_append (x ∷ xs) us (y ∷ ys) vs a b = (a.0, zip_append xs us ys vs a.1 b)

  zip_after : (ps qs : List X) (cs ds : List (List X)) → AllZip R ps qs → AllZip (AllZip R) cs ds → AllZip R (after_list ps cs) (after_list qs ds)
  zip_after [] [] cs ds a b = tt
  zip_after [] (q ∷ qs) cs ds a b = absurd a
  zip_after (p ∷ ps) [] cs ds a b = absurd a
  zip_after (p ∷ ps) (q ∷ qs) [] [] a b = a
  zip_after (p ∷ ps) (q ∷ qs) [] (d ∷ ds) a b = absurd b
  zip_after (p ∷ ps) (q ∷ qs) (c ∷ cs) [] a b = absurd b
  zip_after (p ∷ ps) (q ∷ qs) (c ∷ cs) (d ∷ ds) a b = (a.0, zip_append c (after_list ps cs) d (after_list qs ds) b.0 (zip_after ps qs cs ds a.1 b.1))

  zip_weave : (cs ds : List (List X)) (ps qs : List X) → AllZip (AllZip R) cs ds → AllZip R ps qs → AllZip R (weave cs ps) (weave ds qs)
  zip_weave [] [] ps qs b a = a
  zip_weave [] (d ∷ ds) ps qs b a = absurd b
  zip_weave (c ∷ cs) [] ps qs b a = absurd b
  zip_weave (c ∷ cs) (d ∷ ds) ps qs b a = zip_append c (after_list ps cs) d (after_list qs ds) b.0 (zip_after ps qs cs ds a b.1)

  -- As many copies as items that were copied.
  pub many_copied : (i : ℕ) (xs ys : List X) → i ≤ length xs → AllZip R (take i xs) ys → length ys ≡ i
  many_copied i xs ys h a = sym (length_all_zip R (take i xs) ys a) ∙ length-take-le i xs h

  -- One more item was copied, and its copy put after the others.
  pub one_copied : (i : ℕ) (xs ys zs : List X) (x y : X) → i < length xs → x ≡ get_or xs i x → AllZip R (take i xs) ys → R x y → zs ≡ ys ++ y ∷ []
      → AllZip R (take (i + 1) xs) zs
  one_copied i xs ys zs x y h e a r is = subst (AllZip R (take (i + 1) xs)) (sym is) (all_zip_more R xs ys i x y h e a r)

  -- All items were copied.
  pub all_copied : (i : ℕ) (xs ys : List X) → i ≡ length xs → AllZip R (take i xs) ys → AllZip R xs ys
  all_copied i xs ys e a = subst (λ l. AllZip R l ys) (take_all i xs (omega arith)) a

none_or_some : {X : Type 0} (o : Option X) → (o ≡ None) ⊎ ¬ (o ≡ None)
none_or_some None = inl refl
none_or_some (Some x) = inr (λ e. absurd cc)

module _ {K V Z : Type 0} (same : K × V → K × V → Type 0) where
  leaf_or_inner : (n : Node K V Z) → IsLeaf n ⊎ ¬ (IsLeaf n)
  leaf_or_inner n = none_or_some (out-Node K V Z n).children

  lists : (cs ds : List (Node K V Z)) → AllZip (IsCopy same) cs ds → AllZip (AllZip same) (map pairs_of cs) (map pairs_of ds)
  lists [] [] a = tt
  lists [] (d ∷ ds) a = absurd a
  lists (c ∷ cs) [] a = absurd a
  lists (c ∷ cs) (d ∷ ds) a = (a.0.pairs, lists cs ds a.1)

  lower : (h : ℕ) (cs ds : List (Node K V Z)) → AllZip (IsCopy same) cs ds → AllByRecursion (λ c. (min_len ≤ length (own_pairs c)) × IsLevelled h c) cs
      → AllByRecursion (λ c. (min_len ≤ length (own_pairs c)) × IsLevelled h c) ds
  lower h [] [] a l = tt
  lower h [] (d ∷ ds) a l = absurd a
  lower h (c ∷ cs) [] a l = absurd a
  lower h (c ∷ cs) (d ∷ ds) a l =
      let many = length_all_zip same (own_pairs c) (own_pairs d) a.0.own in
      let least = l.0.0 in
      ((omega (arith, many, least), a.0.levels h l.0.1), lower h cs ds a.1 l.1)

  as_many : (cs ds : List (Node K V Z)) → AllZip (IsCopy same) cs ds → all_blocks ds ≡ all_blocks cs
  as_many [] [] a = refl
  as_many [] (d ∷ ds) a = absurd a
  as_many (c ∷ cs) [] a = absurd a
  as_many (c ∷ cs) (d ∷ ds) a = let one = a.0.blocks in let rest = as_many cs ds a.1 in omega (arith, one, rest)

  -- An inner node with the own pairs of another one copied, and none of its children yet.
  pub inner_started : (n : Node K V Z) (ps : List (K × V)) (cs : List (Node K V Z)) → ¬ (IsLeaf n) → AllZip same (own_pairs n) ps → cs ≡ []
      → IsCopyUpTo same 0 n (roll-Node K V Z (record { pairs = ps; children = Some cs }))
  inner_started n ps cs inner own none = record {
    own = subst (AllZip same (own_pairs n)) (sym (own_made _)) own;
    below = subst (AllZip (IsCopy same) []) (sym (children_made _ ∙ none)) tt;
    leaf = λ l. absurd (inner l);
    inner = λ _ l. let e = sym (field_made (record { pairs = ps; children = Some cs })) in absurd (cc (e, l));
  }

  module _ (i : ℕ) (n m : Node K V Z) (copied : IsCopyUpTo same i n m) where
    -- A node with a child is no leaf, and nor is the copy.
    pub inner_copy : i < length (children_of n) → ¬ (IsLeaf m)
    inner_copy h = copied.inner (λ l. let e = ap length (leaf_children n l) in absurd (omega arith))

    pub children_copied : i ≤ length (children_of n) → length (children_of m) ≡ i
    children_copied h = many_copied (IsCopy same) i (children_of n) (children_of m) h copied.below

    -- One more child was copied, and its copy put after the others.
    pub child_copied : (w c d : Node K V Z) → i < length (children_of n) → c ≡ child_at n i → IsCopy same c d → own_pairs w ≡ own_pairs m
        → children_of w ≡ children_of m ++ d ∷ [] → ¬ (IsLeaf w) → IsCopyUpTo same (i + 1) n w
    child_copied w c d h e copy own below inner = record {
      own = subst (AllZip same (own_pairs n)) (sym own) copied.own;
      below = subst (AllZip (IsCopy same) (take (i + 1) (children_of n))) (sym below)
          (all_zip_more (IsCopy same) (children_of n) (children_of m) i c d h (e ∙ get_or_default (children_of n) i n c h) copied.below copy);
      leaf = λ l. let e = ap length (leaf_children n l) in absurd (omega arith);
      inner = λ no. inner;
    }

    -- All children were copied: that is a copy of the tree.
    pub tree_copied : i ≡ length (children_of n) → IsCopy same n m
    tree_copied e = record {
      pairs = subst (λ s. AllZip same s (pairs_of m)) (sym (pairs_is n))
          (subst (AllZip same (weave (map pairs_of (children_of n)) (own_pairs n))) (sym (pairs_is m))
          (zip_weave same (map pairs_of (children_of n)) (map pairs_of (children_of m)) (own_pairs n) (own_pairs m)
          (lists (children_of n) (children_of m) below) copied.own));
      own = copied.own;
      levels = levels;
      blocks = omega (arith, blocks_are n, blocks_are m, alone, as_many (children_of n) (children_of m) below);
    }
      where
        alone : blocks_alone m ≡ blocks_alone n
        alone = elim (leaf_or_inner n) [
          | inl l ↦ (let a = alone_leaf n l in let b = alone_leaf m (copied.leaf l) in omega (arith, a, b))
          | inr l ↦ (let a = alone_inner n l in let b = alone_inner m (copied.inner l) in omega (arith, a, b))
        ]

        below : AllZip (IsCopy same) (children_of n) (children_of m)
        below = all_copied (IsCopy same) i (children_of n) (children_of m) e copied.below

        many : length (own_pairs n) ≡ length (own_pairs m)
        many = length_all_zip same (own_pairs n) (own_pairs m) copied.own

        wide : length (children_of n) ≡ length (children_of m)
        wide = length_all_zip (IsCopy same) (children_of n) (children_of m) below

        levels : (h : ℕ) → IsLevelled h n → IsLevelled h m
        levels zero l = let f = l.0 in (omega (arith, many, f), copied.leaf l.1)
        levels (suc h) l = let f = l.0 in let k = l.1 in (
          omega (arith, many, f),
          omega (arith, many, wide, k),
          lower h (children_of n) (children_of m) below l.2,
        )

-- What holds of all pairs in and below a node holds of its own pairs, and of those in and below each child.
module _ {X : Type 0} (P : X → Type 0) where
  own_after : (ps : List X) (cs : List (List X)) → AllByRecursion P (after_list ps cs) → AllByRecursion P ps
  own_after [] cs a = tt
  own_after (p ∷ ps) [] a = a
  own_after (p ∷ ps) (c ∷ cs) a = (a.0, own_after ps cs (all_back P c (after_list ps cs) a.1))

  own_woven : (cs : List (List X)) (ps : List X) → AllByRecursion P (weave cs ps) → AllByRecursion P ps
  own_woven [] ps a = a
  own_woven (c ∷ cs) ps a = own_after ps cs (all_back P c (after_list ps cs) a)

  lists_after : (ps : List X) (cs : List (List X)) → length cs ≡ length ps → AllByRecursion P (after_list ps cs) → AllByRecursion (AllByRecursion P) cs
  lists_after ps [] e a = tt
  lists_after [] (c ∷ cs) e a = absurd (omega arith)
  lists_after (p ∷ ps) (c ∷ cs) e a = (all_front P c (after_list ps cs) a.1, lists_after ps cs (omega arith) (all_back P c (after_list ps cs) a.1))

  lists_woven : (cs : List (List X)) (ps : List X) → length cs ≡ length ps + 1 → AllByRecursion P (weave cs ps) → AllByRecursion (AllByRecursion P) cs
  lists_woven [] ps e a = tt
  lists_woven (c ∷ cs) ps e a = (all_front P c (after_list ps cs) a, lists_after ps cs (omega arith) (all_back P c (after_list ps cs) a))

module _ {K V Z : Type 0} (P : K × V → Type 0) where
  all_own : (n : Node K V Z) → All P (pairs_of n) → All P (own_pairs n)
  all_own n a = All-from_recursion P (own_pairs n) (own_woven P (map pairs_of (children_of n)) (own_pairs n)
      (subst (AllByRecursion P) (pairs_is n) (recursion_from_All P (pairs_of n) a)))

  list_at : (cs : List (Node K V Z)) (i : ℕ) (d : Node K V Z) → i < length cs → AllByRecursion (AllByRecursion P) (map pairs_of cs)
      → AllByRecursion P (pairs_of (get_or cs i d))
  list_at [] i d h a = absurd (omega arith)
  list_at (c ∷ cs) zero d h a = a.0
  list_at (c ∷ cs) (suc i) d h a = list_at cs i d (omega arith) a.1

  wide_list : (cs : List (Node K V Z)) (m : ℕ) → length cs ≡ m → length (map pairs_of cs) ≡ m
  wide_list cs m e = length-map cs _ ∙ e

  -- A child of a levelled node is levelled too.
  all_below : (h : ℕ) (n c : Node K V Z) (i : ℕ) → IsLevelled h n → i < length (children_of n) → c ≡ child_at n i → All P (pairs_of n)
      → (g : ℕ) × IsLevelled g c × All P (pairs_of c)
  all_below zero n c i l h e a = let w = ap length (leaf_children n l.1) in absurd (omega arith)
  all_below (suc g) n c i l h e a =
      let lists = lists_woven P (map pairs_of (children_of n)) (own_pairs n) (wide_list (children_of n) (length (own_pairs n) + 1) l.1)
      (subst (AllByRecursion P) (pairs_is n) (recursion_from_All P (pairs_of n) a)) in
      let levels = all_at (IsBelow g) (children_of n) i n h l.2 in (
        g,
        subst (IsLevelled g) (sym e) levels.1,
        subst (λ x. All P (pairs_of x)) (sym e)
            (All-from_recursion P (pairs_of (child_at n i)) (list_at (children_of n) i n h lists)),
      )

-- Of what implies a fact for each item, some item has it: so the fact holds.
some_item : {X : Type 0} {R : Type 0} (P : X → Type 0) (xs : List X) → All (λ x. P x → R) xs → Any P xs → R
some_item P xs all (k, x, h, e, p) = all k x h (subst P (sym e) p)

-- An item of a list has what some item of the list has.
each_item : {X : Type 0} (P : X → Type 0) (xs : List X) → All (λ x. P x → Any P xs) xs
each_item P xs k d h p = (k, get_or xs k d, h, get_or_default xs k (get_or xs k d) d h, p)

module _ {K V : Type 0} (may : K × V → TryReserveError → Type 0) (e : TryReserveError) where
  -- What may refuse a copy of one of the pairs.
  pub refused_at : (pairs : List (K × V)) (i : ℕ) (p : K × V) → i < length pairs → p ≡ get_or pairs i p → may p e → MayRefuseNodes may pairs e
  refused_at pairs i p h is m = inr (i, p, h, sym is, m)

module _ {K V Z : Type 0} (may : K × V → TryReserveError → Type 0) (e : TryReserveError) where
  -- What may refuse a copy of a node's own pairs may refuse one of all in and below it, and so may what refuses that of a child.
  pub refused_own : (n : Node K V Z) → MayRefuseNodes may (own_pairs n) e → MayRefuseNodes may (pairs_of n) e
  refused_own n (inl no_memory) = inl no_memory
  refused_own n (inr own) = inr (some_item (λ p. may p e) (own_pairs n)
      (all_own (λ p. may p e → Any (λ q. may q e) (pairs_of n)) n (each_item (λ p. may p e) (pairs_of n))) own)

  pub refused_below : (h : ℕ) (n c : Node K V Z) (i : ℕ) → IsLevelled h n → i < length (children_of n) → c ≡ child_at n i
      → ((g : ℕ) → IsLevelled g c → MayRefuseNodes may (pairs_of c) e) → MayRefuseNodes may (pairs_of n) e
  refused_below h n c i l less is refused =
      let below = all_below (λ p. may p e → Any (λ q. may q e) (pairs_of n)) h n c i l less is (each_item (λ p. may p e) (pairs_of n)) in
      widened below.2 (refused below.0 below.1)
    where
      widened : All (λ p. may p e → Any (λ q. may q e) (pairs_of n)) (pairs_of c) → MayRefuseNodes may (pairs_of c) e → MayRefuseNodes may (pairs_of n) e
      widened all (inl no_memory) = inl no_memory
      widened all (inr some) = inr (some_item (λ p. may p e) (pairs_of c) all some)
