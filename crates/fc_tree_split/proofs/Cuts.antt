-- The two parts of a tree that is cut along a path.
use Rattle.std.proofs.Common.{◌≡◌, ℕ, zero, suc, ◌+◌, ◌<◌, ◌≤◌, List, [], ◌∷◌, ◌++◌, length, get_or, map, take, drop, slice_get, refl, sym, ap, subst, ◌∙◌}
use Rattle.std.proofs.Common.{arith, add-one, append-nil, length-append, Option, Some, None, Result, Ok, Err, IfOk, inl, inr}
use Rattle.std.specs.Prelude.{slice_set, slice_range}
use Rattle.std.specs.List.{AllByRecursion}
use Rattle.std.specs.Result.{OnOk}
use Rattle.std.proofs.lemmas.List.{length-drop}
use Rattle.fc_base.specs.Sizes.{most_height}
use Rattle.fc_tree_node.specs.Weave.{weave, before_list}
use Rattle.fc_tree_node.specs.declared.node.Node.{Node}
use Rattle.fc_tree_node.specs.Node.{own_pairs, children_of, child_at, pairs_of, IsLeaf, IsInner, IsLevelled, IsSound, IsSoundRoot, IsEmptyLeaf}
use Rattle.fc_tree_node.specs.Bordered.{FirstThen, IsLeftBordered, IsRightBordered}
use Rattle.fc_tree_node.specs.Path.{IsPath, before_gap, after_gap}
use Rattle.fc_tree_node.specs.Place.{before_child, after_child, after_own, IsPlace, place_pair, before_pair, after_pair}
use Rattle.fc_tree_node.specs.Siblings.{AreAlike}
use Rattle.fc_tree_node.specs.Tree.{Map, entries, IsSoundMap, IsSoundWithin}
use Rattle.fc_tree_node.proofs.Lists.{take_nil, length_take, all_take, all_drop}
use Rattle.fc_tree_node.proofs.Pairs.{pairs_is, leaf_pairs, leaf_children, child_below}
use Rattle.fc_tree_node.proofs.Lent.{lent_is, IsReplaced}
use Rattle.fc_tree_node.proofs.Gaps.{take_item, after_child_pair, step_levels}
use Rattle.fc_tree_node.proofs.PathSteps.{one_step, more_steps}
use Rattle.fc_tree_node.proofs.Siblings.{around_one}
use Rattle.fc_tree_split.specs.Cut.{IsEmpty, IsCutPath, IsCutInTwo}
use Rattle.fc_tree_node.proofs.Formed.{leaf_or_inner}
use Rattle.fc_tree_node.specs.Measures.{height_of}
use Rattle.fc_tree_node.proofs.MeasureFacts.{levelled_height, no_children}
use Rattle.fc_tree_split.proofs.Borders.{leaf_alike, inner_alike, first_join, border_closed, child_here, levelled_bordered}
use Rattle.fc_tree_split.specs.declared.rebalancing.Border.TheVariants.{Left, Right}

module _ {X : Type 0} where
  set_last : (xs : List X) (i : ℕ) (y : X) → i < length xs → slice_set (take (suc i) xs) i y ≡ take i xs ++ y ∷ []
  set_last [] i y h = absurd (omega arith)
  set_last (x ∷ xs) zero y h = refl
  set_last (x ∷ xs) (suc i) y h = ap (λ zs. x ∷ zs) (set_last xs i y (omega arith))

module _ {K V : Type 0} where
  module _ {Z : Type 0} where
    -- the border before the cut
    empty_pairs : (h : ℕ) (n : Node K V Z) → IsEmpty h n → pairs_of n ≡ []
    empty_pairs zero n b = leaf_pairs n b.1 ∙ b.0
    empty_pairs (suc h) n b =
        pairs_is n ∙ ap (λ ps. weave (map pairs_of (children_of n)) ps) b.0 ∙ ap (λ cs. weave (map pairs_of cs) []) b.2 ∙ append-nil (pairs_of b.1)
        ∙ empty_pairs h b.1 b.3

    empty_inner : (h : ℕ) (n : Node K V Z) → IsEmpty (suc h) n → IsInner n
    empty_inner h n b = let e : length (own_pairs n) ≡ 0 = ap length b.0 in let f : length (children_of n) ≡ 1 = ap length b.2 in omega arith

    empty_bordered : (h : ℕ) (n : Node K V Z) → IsEmpty h n → IsLeftBordered h n
    empty_bordered zero n b = let e : length (own_pairs n) ≡ 0 = ap length b.0 in (omega arith, b.1)
    empty_bordered (suc h) n b =
        let e : length (own_pairs n) ≡ 0 = ap length b.0 in
        (omega arith, empty_inner h n b, subst (FirstThen (IsLeftBordered h) (IsSound h)) (sym b.2) (empty_bordered h b.1 b.3, tt))

    -- paths that a cut may take
    pub record IsCutAlong (h : ℕ) (p : List ℕ) (n : Node K V Z) : Type 0 where
      pub some : 0 < length p
      pub short : length p ≤ h + 1
      pub path : IsPath p n

    place_path : (p : List ℕ) (h : ℕ) (n : Node K V Z) → IsLevelled h n → IsPlace p n → IsCutAlong h p n
    place_path [] h n l w = absurd w
    place_path (i ∷ []) h n l w = record { some = omega arith; short = omega arith; path = (omega arith, tt) }
    place_path (i ∷ j ∷ p) h n l w =
        let s = step_levels h n i l w.0 in
        let r = place_path (j ∷ p) s.0 (child_at n i) s.2 w.1 in
        let short = r.short in
        record { some = omega arith; short = omega arith; path = (s.3, r.path) }

    pub cut_path : (p : List ℕ) (h : ℕ) (n : Node K V Z) → IsLevelled h n → IsCutPath p n → IsCutAlong h p n
    cut_path p h n l (inl w) = place_path p h n l w
    cut_path p h n l (inr w) = let e = w.1 h l in record { some = omega arith; short = omega arith; path = w.0 }

  -- the pairs on both sides of a place of a pair, and of a gap
  there_is : (xs : List (K × V)) (i : ℕ) (x : K × V) → slice_get xs i ≡ Some x → (i < length xs) × (get_or xs i x ≡ x)
  there_is [] i x e = absurd (cc e)
  there_is (y ∷ xs) zero x e = (omega arith, cc e)
  there_is (y ∷ xs) (suc i) x e = let r = there_is xs i x e in (omega arith, r.1)

  module _ {Z : Type 0} where
    place_rest : (p : List ℕ) (n : Node K V Z) (x : K × V) → place_pair p n ≡ Some x → after_gap p n ≡ x ∷ after_pair p n
    place_rest [] n x e = absurd (cc e)
    place_rest (i ∷ []) n x e = let r = there_is (own_pairs n) i x e in after_child_pair n i x r.0 ∙ ap (λ y. y ∷ after_own n i) r.1
    place_rest (i ∷ j ∷ p) n x e = ap (λ zs. zs ++ after_child n i) (place_rest (j ∷ p) (child_at n i) x e)

    gap_front : (p : List ℕ) (h : ℕ) (n : Node K V Z) → IsLevelled h n → length p ≡ h + 1 → IsPath p n → before_pair p n ≡ before_gap p n
    gap_front [] h n l e w = absurd (omega arith)
    gap_front (i ∷ []) zero n l e w =
        let z = leaf_children n l.1 in
        ap (λ cs. weave (map pairs_of (take (suc i) cs)) (take i (own_pairs n))) z
        ∙ sym (append-nil (before_child n i) ∙ ap (λ cs. before_list (map pairs_of (take i cs)) (take i (own_pairs n))) z
        ∙ ap (λ cs. before_list (map pairs_of cs) (take i (own_pairs n))) (take_nil i))
    gap_front (i ∷ []) (suc h) n l e w = absurd (omega arith)
    gap_front (i ∷ j ∷ p) zero n l e w = absurd (omega arith)
    gap_front (i ∷ j ∷ p) (suc h) n l e w = ap (λ zs. before_child n i ++ zs) (gap_front (j ∷ p) h (child_at n i) (child_below h n i l w.0).1 (omega arith) w.1)

    pub cut_in_two : (p : List ℕ) (h : ℕ) (n : Node K V Z) (left right : Map K V Z) → IsLevelled h n → entries left ≡ before_pair p n
        → entries right ≡ after_gap p n
        → IsCutInTwo p (Some n) left right
    cut_in_two p h n left right l e f = record {
      left_of_pair = λ x there. e;
      right_of_pair = λ x there. f ∙ place_rest p n x there;
      left_of_gap = λ gap. e ∙ gap_front p h n l (gap.1 h l) gap.0;
      right_of_gap = λ gap. f;
    }

    -- where the path ends
    module _ (p : List ℕ) (n r new other : Node K V Z) (one : length p ≡ 1) (w : IsPath p n) where
      abbrev last : ℕ
      last = get_or p 0 0

      pub end_front : own_pairs new ≡ take last (own_pairs n) → children_of new ≡ take (last + 1) (children_of n) → pairs_of new ≡ before_pair p n
      end_front e f =
          pairs_is new ∙ ap (λ ps. weave (map pairs_of (children_of new)) ps) e
          ∙ ap (λ cs. weave (map pairs_of cs) (take last (own_pairs n))) (f ∙ ap (λ k. take k (children_of n)) (add-one last))
          ∙ ap (λ q. before_pair q n) (sym (one_step p one))

      pub end_back : (h : ℕ) → IsEmpty h r → pairs_of other ≡ pairs_of r ++ after_gap (last ∷ []) n → pairs_of other ≡ after_gap p n
      end_back h b e = e ∙ ap (λ zs. zs ++ after_gap (last ∷ []) n) (empty_pairs h r b) ∙ ap (λ q. after_gap q n) (sym (one_step p one))

      pub end_front_levels : (h : ℕ) → IsLevelled h n → own_pairs new ≡ take last (own_pairs n) → children_of new ≡ take (last + 1) (children_of n)
          → AreAlike n new → IsRightBordered h new
      end_front_levels zero l e f a =
          let le = (subst (λ q. IsPath q n) (one_step p one) w).0 in
          let t = ap length e ∙ length_take last (own_pairs n) le in
          (omega arith, leaf_alike n new l.1 a)
      end_front_levels (suc h) l e f a =
          let le = (subst (λ q. IsPath q n) (one_step p one) w).0 in
          let t = ap length e ∙ length_take last (own_pairs n) le in
          levelled_bordered Right (suc h) new (
            omega arith,
            inner_alike n new l.1 a,
            subst (AllByRecursion (IsSound h)) (sym f) (all_take (IsSound h) (last + 1) (children_of n) l.2),
          )

      pub end_back_levels : (h : ℕ) → IsLevelled h n → IsEmpty h r → own_pairs other ≡ own_pairs r ++ drop last (own_pairs n)
          → children_of other ≡ children_of r ++ drop (last + 1) (children_of n) → AreAlike n other → IsLeftBordered h other
      end_back_levels zero l b e f a =
          let t = ap length e ∙ ap (λ ps. length (ps ++ drop last (own_pairs n))) b.0 ∙ length-drop last (own_pairs n) in
          (omega arith, leaf_alike n other l.1 a)
      end_back_levels (suc h) l b e f a =
          let t = ap length e ∙ ap (λ ps. length (ps ++ drop last (own_pairs n))) b.0 ∙ length-drop last (own_pairs n) in
          let s : IsLeftBordered (suc h) r = empty_bordered (suc h) r b in
          let some : length (children_of r) ≡ 1 = ap length b.2 in (
            omega arith,
            inner_alike n other l.1 a,
            subst (FirstThen (IsLeftBordered h) (IsSound h)) (sym f)
                (first_join (IsLeftBordered h) (IsSound h) (children_of r) _ (omega arith) s.2 (all_drop (IsSound h) (last + 1) (children_of n) l.2)),
          )

    -- where the path goes on
    pub record IsForked (h : ℕ) (p : List ℕ) (n left right : Node K V Z) : Type 0 where
      pub below : ℕ
      pub height : h ≡ suc below
      pub levels : IsLevelled (suc below) n
      pub le : get_or p 0 0 ≤ length (own_pairs n)
      pub path_is : p ≡ get_or p 0 0 ∷ slice_range p 1 (length p)
      pub onward : IsCutAlong below (slice_range p 1 (length p)) (child_at n (get_or p 0 0))
      pub left_inner : IsInner left
      pub left_own : own_pairs left ≡ take (get_or p 0 0) (own_pairs n)
      pub left_children : children_of left ≡ take (suc (get_or p 0 0)) (children_of n)
      pub left_child : child_at left (get_or p 0 0) ≡ child_at n (get_or p 0 0)
      pub right_inner : IsInner right
      pub right_own : own_pairs right ≡ drop (get_or p 0 0) (own_pairs n)
      pub top : Node K V Z
      pub empty : IsEmpty below top
      pub right_children : children_of right ≡ top ∷ drop (suc (get_or p 0 0)) (children_of n)

    pub forked : (h : ℕ) (p : List ℕ) (n r left right : Node K V Z) → (length p ≡ 1 → ⊥) → IsCutAlong h p n → IsLevelled h n → IsEmpty h r
        → own_pairs left ≡ take (get_or p 0 0) (own_pairs n) → children_of left ≡ take (get_or p 0 0 + 1) (children_of n)
        → own_pairs right ≡ own_pairs r ++ drop (get_or p 0 0) (own_pairs n) → children_of right ≡ children_of r ++ drop (get_or p 0 0 + 1) (children_of n)
        → AreAlike n left → AreAlike left right → IsForked h p n left right
    forked zero p n r left right more c l b e₁ f₁ e₂ f₂ a₁ a₂ = absurd (more (omega arith))
    forked (suc h) p n r left right more c l b e₁ f₁ e₂ f₂ a₁ a₂ =
        let some = c.some in
        let short = c.short in
        let i = get_or p 0 0 in
        let is : p ≡ i ∷ slice_range p 1 (length p) = more_steps p some in
        let long : length p ≡ suc (length (slice_range p 1 (length p))) = ap length is in
        let w = subst (λ q. IsPath q n) is c.path in
        let le = w.0 in
        let two : 1 < length p = several p some more in
        let there = f₁ ∙ ap (λ j. take j (children_of n)) (add-one i) in
        let inner = inner_alike n left l.1 a₁ in
        record {
          below = h;
          height = refl;
          levels = l;
          le = le;
          path_is = is;
          onward = record { some = omega arith; short = omega arith; path = w.1 };
          left_inner = inner;
          left_own = e₁;
          left_children = there;
          left_child = child_here left (child_at n i) (take i (children_of n)) [] i (there ∙ take_item (children_of n) i n (omega arith))
              (length_take i (children_of n) (omega arith));
          right_inner = inner_alike left right inner a₂;
          right_own = e₂ ∙ ap (λ ps. ps ++ drop i (own_pairs n)) b.0;
          top = b.1;
          empty = b.3;
          right_children = f₂ ∙ ap (λ cs. cs ++ drop (i + 1) (children_of n)) b.2 ∙ ap (λ j. b.1 ∷ drop j (children_of n)) (add-one i);
        }
      where
        several : (p : List ℕ) → 0 < length p → (length p ≡ 1 → ⊥) → 1 < length p
        several [] s m = absurd (omega arith)
        several (i ∷ []) s m = absurd (m refl)
        several (i ∷ j ∷ p) s m = omega arith

    module _ (h : ℕ) (p : List ℕ) (n left right : Node K V Z) (f : IsForked h p n left right) where
      abbrev step : ℕ
      step = get_or p 0 0

      abbrev rest : List ℕ
      rest = slice_range p 1 (length p)

      there : step < length (children_of n)
      there = omega arith

      before_on : (q : List ℕ) → 0 < length q → before_pair (step ∷ q) n ≡ before_child n step ++ before_pair q (child_at n step)
      before_on [] s = absurd (omega arith)
      before_on (j ∷ q) s = refl

      -- the two nodes that the cut goes on with, lent out of their lists
      pub record IsForkedOn (child other : Node K V Z) : Type 0 where
        pub is : child ≡ child_at left step
        pub levels : IsLevelled f.below child
        pub empty : IsEmpty f.below other

      pub forked_on : (child other : Node K V Z) → child ≡ get_or (children_of left) step child → other ≡ get_or (children_of right) 0 other
          → IsForkedOn child other
      forked_on child other q q' =
          let o = ap length f.left_own ∙ length_take step (own_pairs n) f.le in
          let is = lent_is left step child f.left_inner (omega arith) q in
          let top = lent_is right 0 other f.right_inner (omega arith) q' ∙ ap (λ cs. get_or cs 0 right) f.right_children in
          record {
            is = is;
            levels = subst (IsLevelled f.below) (sym (is ∙ f.left_child)) (child_below f.below n step f.levels f.le).1;
            empty = subst (IsEmpty f.below) (sym top) f.empty;
          }

      pub fork_front : (new child c : Node K V Z) → IsReplaced left new step c → child ≡ child_at left step → pairs_of c ≡ before_pair rest child
          → pairs_of new ≡ before_pair p n
      fork_front new child c m ci e =
          let le = f.le in
          let lt = there in
          around_one new c (take step (children_of n)) [] (take step (own_pairs n)) []
          (m.child ∙ ap (λ cs. slice_set cs step c) f.left_children ∙ set_last (children_of n) step c there)
          (m.same ∙ f.left_own ∙ sym (append-nil (take step (own_pairs n))))
          (length_take step (children_of n) (omega arith) ∙ sym (length_take step (own_pairs n) le))
          ∙ ap (λ zs. before_child n step ++ zs) (append-nil (pairs_of c) ∙ e ∙ ap (before_pair rest) (ci ∙ f.left_child))
          ∙ sym (ap (λ q. before_pair q n) f.path_is ∙ before_on rest f.onward.some)

      pub fork_back : (new child c : Node K V Z) → IsReplaced right new 0 c → child ≡ child_at left step → pairs_of c ≡ after_gap rest child
          → pairs_of new ≡ after_gap p n
      fork_back new child c m ci e =
          pairs_is new ∙ ap (λ cs. weave (map pairs_of cs) (own_pairs new)) (m.child ∙ ap (λ cs. slice_set cs 0 c) f.right_children)
          ∙ ap (λ ps. weave (map pairs_of (c ∷ drop (suc step) (children_of n))) ps) (m.same ∙ f.right_own)
          ∙ ap (λ zs. zs ++ after_child n step) (e ∙ ap (after_gap rest) (ci ∙ f.left_child))
          ∙ sym (ap (λ q. after_gap q n) f.path_is)

      pub fork_front_levels : (new c : Node K V Z) → IsReplaced left new step c → IsRightBordered f.below c → IsRightBordered h new
      fork_front_levels new c m b =
          let g = f.below in
          let le = f.le in
          let lt = there in
          let is = m.child ∙ ap (λ cs. slice_set cs step c) f.left_children ∙ set_last (children_of n) step c there in
          let o = ap length (m.same ∙ f.left_own) ∙ length_take step (own_pairs n) le in
          let t = length_take step (children_of n) (omega arith) in
          let k = ap length is ∙ length-append (take step (children_of n)) (c ∷ []) in
          subst (λ k. IsRightBordered k new) (sym f.height) (border_closed Right g new c (take step (children_of n)) [] (omega arith) (omega arith) is
          (omega arith) (all_take (IsSound g) step (children_of n) f.levels.2) b tt)

      pub fork_back_levels : (new c : Node K V Z) → IsReplaced right new 0 c → IsLeftBordered f.below c → IsLeftBordered h new
      fork_back_levels new c m b =
          let g = f.below in
          let lt = there in
          let is = m.child ∙ ap (λ cs. slice_set cs 0 c) f.right_children in
          let o = ap length (m.same ∙ f.right_own) ∙ length-drop step (own_pairs n) in
          let t = length-drop (suc step) (children_of n) in
          let k = ap length is in
          subst (λ k. IsLeftBordered k new) (sym f.height) (border_closed Left g new c [] (drop (suc step) (children_of n)) (omega arith) (omega arith) is refl
          tt b (all_drop (IsSound g) (suc step) (children_of n) f.levels.2))

    pub within_sound : (h : ℕ) (m : Map K V Z) → h ≤ most_height → IsSoundWithin h m → IsSoundMap m
    within_sound h None le w = tt
    within_sound h (Some n) le w = (w.0, omega arith, w.2)

    -- the border that is made for a leaf, and for a node above one
    empty_leaf : (h : ℕ) (n top : Node K V Z) → IsLeaf n → IsEmptyLeaf top → IsLevelled h n → IsEmpty h top
    empty_leaf zero n top e b l = b
    empty_leaf (suc h) n top e b l = absurd (leaf_or_inner n e l.1)

    pub empty_made : {E : Type 0} (n : Node K V Z) (made : Result (Node K V Z) E) → IsLeaf n → IfOk made IsEmptyLeaf
        → IfOk made (λ b. (h : ℕ) → IsLevelled h n → IsEmpty h b)
    empty_made n (Ok b) e i = λ h l. empty_leaf h n b e i l
    empty_made n (Err x) e i = i

    pub empty_above : (h : ℕ) (n top below child : Node K V Z) → (IsLeaf n → ⊥) → own_pairs top ≡ [] → children_of top ≡ below ∷ [] → child ≡ child_at n 0
        → ((g : ℕ) → IsLevelled g child → IsEmpty g below) → IsLevelled h n → IsEmpty h top
    empty_above zero n top below child up e f c b l = absurd (up l.1)
    empty_above (suc h) n top below child up e f c b l = (e, below, f, b h (subst (IsLevelled h) (sym c) (child_below h n 0 l (omega arith)).1))

    -- the first child of a node above the leaves
    pub record IsFirst (n : Node K V Z) : Type 0 where
      pub below : ℕ
      pub levels : IsLevelled below (child_at n 0)
      pub lower : height_of (child_at n 0) < height_of n
      pub higher : height_of n ≡ height_of (child_at n 0) + 1
      pub there : 0 < length (children_of n)

    pub first_child : (h : ℕ) (n : Node K V Z) → (IsLeaf n → ⊥) → IsLevelled h n → IsFirst n
    first_child zero n up l = absurd (up l.1)
    first_child (suc h) n up l =
        let b = (child_below h n 0 l (omega arith)).1 in
        let x = levelled_height (suc h) n l in
        let y = levelled_height h (child_at n 0) b in
        record { below = h; levels = b; lower = omega arith; higher = omega arith; there = omega arith }

    pub child_lower : (h : ℕ) (n b : Node K V Z) → (IsLeaf n → ⊥) → IsLevelled h n → b ≡ child_at n 0 → height_of n ≡ height_of b + 1
    child_lower h n b up l e = rw e (first_child h n up l).higher

    -- the root of a map
    pub root_sound : (root : Option (Node K V Z)) (b : Node K V Z) → root ≡ Some b → IsSoundMap root → (h : ℕ) × (h ≤ most_height) × IsSoundRoot h b
    root_sound root b e s = subst IsSoundMap e s

-- What holds anyway holds where there is a value.
pub anyway : {T E P : Type 0} (r : Result T E) → P → OnOk r P
anyway (Ok x) p = p
anyway (Err e) p = tt

-- A leaf has no level below it.
pub leaf_low : {K V Z : Type 0} (n : Node K V Z) → IsLeaf n → height_of n ≡ 0
leaf_low n leaf = no_children n (leaf_children n leaf)
