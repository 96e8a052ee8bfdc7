-- Ascending pairs at a cut: those before it, those after it, and those amid two cuts.
use Rattle.std.proofs.Common.{◌≡◌, ℕ, zero, suc, ◌+◌, ◌<◌, ◌≤◌, Bool, true, false, cond, List, [], ◌∷◌, ◌++◌, length, take, drop, get_or, refl, sym, ap, subst}
use Rattle.std.proofs.Common.{◌∙◌, arith, ◌⊎◌, inl, inr, Some, append-nil, length-append}
use Rattle.std.specs.Prelude.{not, ◌&&◌, slice_range}
use Rattle.std.specs.List.{AllByRecursion, filter}
use Rattle.std.specs.Ordering.{is_lt, is_le, is_gt, is_ge}
use Rattle.std.specs.declared.cmp.Ordering.{Ordering}
use Rattle.std.specs.declared.cmp.Ordering.TheVariants.{Less, Equal, Greater}
use Rattle.std.specs.declared.ops.Bound.{Bound}
use Rattle.std.specs.declared.ops.Bound.TheVariants.{Included, Excluded, Unbounded}
use Rattle.std.proofs.lemmas.Bool.{cases_lt}
use Rattle.std.proofs.lemmas.List.Elements.{filter-append, filter_agree}
use Rattle.fc_base.specs.Ascending.{IsAscending}
use Rattle.fc_base.specs.Query.{IsQueryOrder}
use Rattle.fc_base.specs.Ranges.{bound_by, starts, stops, within}
use Rattle.fc_base.proofs.AscendingFacts.{all_map, kept, left_out}
use Rattle.fc_base.proofs.Laws.{ascending_back, smaller_before}
use Rattle.fc_tree_node.specs.declared.node.Node.{Node}
use Rattle.fc_tree_node.specs.Node.{own_pairs, children_of, child_at, pairs_of, IsLevelled}
use Rattle.fc_tree_node.specs.Place.{before_child, after_child, before_own, after_own}
use Rattle.fc_tree_node.proofs.Gaps.{item_there, own_pair, before_child_pair, after_child_pair, after_none}
use Rattle.fc_tree_node.proofs.Lists.{all_both}
use Rattle.fc_tree_search.proofs.Ordered.{ascending_middle}
use Rattle.fc_tree_node.specs.LeafGap.{IsLeafGap}
use Rattle.fc_tree_node.specs.Path.{before_gap}
use Rattle.fc_tree_node.specs.Tree.{Map, entries}
use Rattle.fc_tree_cursor.specs.Gap.{AreEndsIn}
use Rattle.fc_tree_cursor.proofs.GapFacts.{IsAround, around_child}
use Rattle.fc_tree_cursor.specs.Span.{between}
use Rattle.fc_tree_cursor.specs.declared.cuts.Cut.{Cut}
use Rattle.fc_tree_cursor.specs.declared.cuts.Cut.TheVariants.{First, Before, After, Last}
use Rattle.fc_tree_cursor.specs.Cut.{start_cut, stop_cut, leads, before, amid, HoldsFrom, FailsAt, IsTurn, TurnsAt}

module _ {X : Type 0} (t : X → Bool) (s : List X) where
  -- The test holds at one more item.
  pub held_on : (from i : ℕ) (x : X) → i < length s → x ≡ get_or s i x → t x ≡ true → HoldsFrom t s from i → HoldsFrom t s from (i + 1)
  held_on from i x h e p all k d ge lt = order (cases_lt k i)
    where
      order : (k < i) ⊎ (i ≤ k) → t (get_or s k d) ≡ true
      order (inl a) = all k d ge a
      order (inr b) =
          let same : k ≡ i = omega arith in
          let there = item_there s i h in
          ap (λ j. t (get_or s j d)) same ∙ ap t (there.1 d ∙ sym (there.1 x) ∙ sym e) ∙ p

  -- It does not hold at the item at a place.
  pub not_there : (i : ℕ) (x : X) → x ≡ get_or s i x → t x ≡ false → FailsAt t s i
  not_there i x e p d h = let there = item_there s i h in ap t (there.1 d ∙ sym (there.1 x) ∙ sym e) ∙ p

module _ {X : Type 0} {t : X → Bool} {s : List X} where
  -- A turn from the front on, and one that leaves its first place.
  pub turn_first : {i : ℕ} → IsTurn t s 0 i → TurnsAt t s i
  turn_first r = record { within = r.within; holds = λ k d ge lt. r.holds k d (omega arith) lt; fails = r.fails }

  pub turn_later : {from i : ℕ} → from < i → IsTurn t s from i → TurnsAt t s i
  turn_later lt r = record { within = r.within; holds = λ k d ge le. r.holds k d (omega arith) le; fails = r.fails }

module _ {X : Type 0} where
  -- A list in three parts, of which the test holds at all of the first, or at none, and at none of the last.
  pub lead_and_inside : (t : X → Bool) (a c d : List X) → AllByRecursion (λ x. t x ≡ true) a → AllByRecursion (λ x. t x ≡ false) d
      → length (filter t (a ++ (c ++ d))) ≡ length a + length (filter t c)
  lead_and_inside t a c d h k =
      ap length (filter-append t a (c ++ d) ∙ ap (λ zs. zs ++ filter t (c ++ d)) (kept t a h)
      ∙ ap (λ zs. a ++ zs) (filter-append t c d ∙ ap (λ zs. filter t c ++ zs) (left_out t d k) ∙ append-nil (filter t c))) ∙ length-append a (filter t c)

  pub inside_alone : (t : X → Bool) (a c d : List X) → AllByRecursion (λ x. t x ≡ false) a → AllByRecursion (λ x. t x ≡ false) d
      → length (filter t (a ++ (c ++ d))) ≡ length (filter t c)
  inside_alone t a c d h k = ap length (filter-append t a (c ++ d) ∙ ap (λ zs. zs ++ filter t (c ++ d)) (left_out t a h) ∙ filter-append t c d
      ∙ ap (λ zs. filter t c ++ zs) (left_out t d k) ∙ append-nil (filter t c))

  each : (P : X → Type 0) → ((x : X) → P x) → (s : List X) → AllByRecursion P s
  each P h [] = tt
  each P h (x ∷ s) = (h x, each P h s)

  -- How many the test holds at, and at how many it does not.
  both_counts : (t : X → Bool) (s : List X) → length (filter t s) + length (filter (λ x. not (t x)) s) ≡ length s
  both_counts t [] = refl
  both_counts t (x ∷ s) = go (t x) (both_counts t s)
    where
      go : (b : Bool) → length (filter t s) + length (filter (λ x. not (t x)) s) ≡ length s
          → length (cond b (x ∷ filter t s) (filter t s)) + length (cond (not b) (x ∷ filter (λ x. not (t x)) s) (filter (λ x. not (t x)) s)) ≡ suc (length s)
      go true e = omega (arith, e)
      go false e = omega (arith, e)

  module _ (t u : X → Bool) where
    -- Where the second test holds at all that the first one holds at, it holds at those and at those amid.
    counts_amid : (s : List X) → AllByRecursion (λ x. t x ≡ true → u x ≡ true) s
        → length (filter u s) ≡ length (filter t s) + length (filter (λ x. not (t x) && u x) s)
    counts_amid [] h = refl
    counts_amid (x ∷ s) h = go (t x) (u x) h.0 (counts_amid s h.1)
      where
        w : X → Bool
        w y = not (t y) && u y

        go : (a b : Bool) → (a ≡ true → b ≡ true) → length (filter u s) ≡ length (filter t s) + length (filter w s)
            → length (cond b (x ∷ filter u s) (filter u s))
            ≡ length (cond a (x ∷ filter t s) (filter t s)) + length (cond (not a && b) (x ∷ filter w s) (filter w s))
        go true true h e = omega (arith, e)
        go true false h e = absurd (let no : false ≡ true = h refl in cc)
        go false true h e = omega (arith, e)
        go false false h e = omega (arith, e)

module _ {K V : Type 0} (cmp : K → K → Ordering) where
  -- A test that holds at what is smaller than where it holds.
  abbrev pub HoldsBelow : (K × V → Bool) → Type 0
  HoldsBelow t = (x y : K × V) → cmp x.0 y.0 ≡ Less → t y ≡ true → t x ≡ true

  module _ (t : K × V → Bool) (down : HoldsBelow t) where
    fails_on : (x y : K × V) → cmp x.0 y.0 ≡ Less → t x ≡ false → t y ≡ false
    fails_on x y l e = go (t y) refl
      where
        go : (b : Bool) → t y ≡ b → t y ≡ false
        go true f = absurd (let no : false ≡ true = sym e ∙ down x y l f in cc)
        go false f = f

    holds_earlier : (a b : List (K × V)) (x : K × V) → IsAscending cmp (a ++ x ∷ b) → t x ≡ true → AllByRecursion (λ y. t y ≡ true) a
    holds_earlier a b x o e = all_map _ _ (λ y l. down y x l e) a (smaller_before cmp a b x o)

    fails_later : (a b : List (K × V)) (x : K × V) → IsAscending cmp (a ++ x ∷ b) → t x ≡ false → AllByRecursion (λ y. t y ≡ false) b
    fails_later a b x o e = all_map _ _ (λ y l. fails_on x y l e) b (ascending_back cmp a (x ∷ b) o).0

    -- As many first pairs as the test holds at.
    first_held : (s : List (K × V)) → IsAscending cmp s → take (length (filter t s)) s ≡ filter t s
    first_held [] o = refl
    first_held (x ∷ s) o = go (t x) refl (first_held s o.1)
      where
        go : (b : Bool) → t x ≡ b → take (length (filter t s)) s ≡ filter t s
            → take (length (cond b (x ∷ filter t s) (filter t s))) (x ∷ s) ≡ cond b (x ∷ filter t s) (filter t s)
        go true e i = ap (λ zs. x ∷ zs) i
        go false e i = let none = left_out t s (fails_later [] s x o e) in ap (λ zs. take (length zs) (x ∷ s)) none ∙ sym none

  module _ (t u : K × V → Bool) (down : HoldsBelow t) (under : HoldsBelow u) where
    abbrev amid_test : K × V → Bool
    amid_test x = not (t x) && u x

    -- At a pair amid two cuts: those before the second are those before the first, and those amid.
    pub parted_counts : (a b : List (K × V)) (x : K × V) → IsAscending cmp (a ++ x ∷ b) → t x ≡ false → u x ≡ true
        → length (filter u (a ++ x ∷ b)) ≡ length (filter t (a ++ x ∷ b)) + length (filter (λ x. not (t x) && u x) (a ++ x ∷ b))
    parted_counts a b x o e f =
        counts_amid t u (a ++ x ∷ b)
        (all_both _ a (x ∷ b) (all_map _ _ (λ y h _. h) a (holds_earlier u under a b x o f))
        ((λ _. f), all_map _ _ (λ y h g. absurd (let no : false ≡ true = sym h ∙ g in cc)) b (fails_later t down a b x o e)))

    -- The pairs amid two cuts lie together after those before the first.
    pub amid_is : (s : List (K × V)) → IsAscending cmp s → slice_range s (length (filter t s))
        (length (filter t s) + length (filter (λ x. not (t x) && u x) s)) ≡ filter (λ x. not (t x) && u x) s
    amid_is s o = ap (λ k. take k (drop (length (filter t s)) s)) (omega arith) ∙ together s o
      where
        together : (s : List (K × V)) → IsAscending cmp s → take (length (filter amid_test s)) (drop (length (filter t s)) s) ≡ filter amid_test s
        together [] o = refl
        together (x ∷ s) o = go (t x) refl (together s o.1)
          where
            none : t x ≡ false → filter t s ≡ []
            none e = left_out t s (fails_later t down [] s x o e)

            alike : (s : List (K × V)) → AllByRecursion (λ y. t y ≡ false) s → filter amid_test s ≡ filter u s
            alike [] h = refl
            alike (y ∷ s) h = ap (λ b. cond (not b && u y) (y ∷ filter amid_test s) (filter amid_test s)) h.0 ∙ ap (λ zs. cond (u y) (y ∷ zs) zs) (alike s h.1)

            go : (b : Bool) → t x ≡ b → take (length (filter amid_test s)) (drop (length (filter t s)) s) ≡ filter amid_test s
                → take (length (cond (not b && u x) (x ∷ filter amid_test s) (filter amid_test s)))
                (drop (length (cond b (x ∷ filter t s) (filter t s))) (x ∷ s)) ≡ cond (not b && u x) (x ∷ filter amid_test s) (filter amid_test s)
            go true e i = i
            go false e i =
                ap (λ zs. take (length (cond (u x) (x ∷ filter amid_test s) (filter amid_test s))) (drop (length zs) (x ∷ s))) (none e)
                ∙ ap (λ zs. take (length (cond (u x) (x ∷ zs) zs)) (x ∷ s)) (alike s (fails_later t down [] s x o e)) ∙ first_held u under (x ∷ s) o
                ∙ ap (λ zs. cond (u x) (x ∷ zs) zs) (sym (alike s (fails_later t down [] s x o e)))

  module _ {Z : Type 0} where
    -- What stands before and after a child of a node, of the pairs that a test holds at as far as the child's place.
    module _ (t : K × V → Bool) (down : HoldsBelow t) (h : ℕ) (n : Node K V Z) (l : IsLevelled h n) (o : IsAscending cmp (pairs_of n)) where
      pub holds_before : (i : ℕ) → TurnsAt t (own_pairs n) i → AllByRecursion (λ y. t y ≡ true) (before_child n i)
      holds_before zero r = tt
      holds_before (suc j) r =
          let k : j < length (own_pairs n) = (omega arith) in
          let x = (item_there (own_pairs n) j k).0 in
          let p = get_or (own_pairs n) j x in
          let e : t p ≡ true = r.holds j x (omega arith) (omega arith) in
          subst (AllByRecursion (λ y. t y ≡ true)) (sym (before_child_pair h n j x l k))
          (all_both _ (before_own n j) (p ∷ []) (holds_earlier t down (before_own n j) (after_own n j) p (subst (IsAscending cmp) (own_pair h n j x l k) o) e)
          (e, tt))

      pub fails_after : (i : ℕ) → FailsAt t (own_pairs n) i → AllByRecursion (λ y. t y ≡ false) (after_child n i)
      fails_after i r = order (cases_lt i (length (own_pairs n)))
        where
          order : (i < length (own_pairs n)) ⊎ (length (own_pairs n) ≤ i) → AllByRecursion (λ y. t y ≡ false) (after_child n i)
          order (inr ge) = subst (AllByRecursion (λ y. t y ≡ false)) (sym (after_none n i ge)) tt
          order (inl k) =
              let x = (item_there (own_pairs n) i k).0 in
              let p = get_or (own_pairs n) i x in
              let e : t p ≡ false = r x k in
              subst (AllByRecursion (λ y. t y ≡ false)) (sym (after_child_pair n i x k))
              (e, fails_later t down (before_own n i) (after_own n i) p (subst (IsAscending cmp) (own_pair h n i x l k) o) e)

module _ {K V Z : Type 0} where
  -- The child's pairs ascend with the node's.
  pub child_ascends : (cmp : K → K → Ordering) (h : ℕ) (n c : Node K V Z) (i : ℕ) → IsLevelled h n → i < length (children_of n) → c ≡ child_at n i
      → IsAscending cmp (pairs_of n) → IsAscending cmp (pairs_of c)
  child_ascends cmp h n c i l k is o = ascending_middle cmp (before_child n i) (pairs_of c) (after_child n i)
      (subst (IsAscending cmp) (around_child h n c i l k is) o)

module _ {K Q S : Type 0} {cmp : K → K → Ordering} {order : K → S → Ordering} (fits : IsQueryOrder cmp order) (sought : Q → S) where
  pub leads_below : {V : Type 0} (cut : Cut Q) → HoldsBelow {V = V} cmp (λ e. leads order sought cut e.0)
  leads_below First x y l e = absurd cc
  leads_below Last x y l e = refl
  leads_below (Before q) x y l e = go (order y.0 (sought q)) refl e
    where
      go : (r : Ordering) → order y.0 (sought q) ≡ r → is_lt r ≡ true → is_lt (order x.0 (sought q)) ≡ true
      go Less h e = ap is_lt (fits.lower (sought q) x.0 y.0 l h)
      go Equal h e = absurd cc
      go Greater h e = absurd cc
  leads_below (After q) x y l e = go (order y.0 (sought q)) refl e
    where
      go : (r : Ordering) → order y.0 (sought q) ≡ r → is_le r ≡ true → is_le (order x.0 (sought q)) ≡ true
      go Less h e = ap is_le (fits.lower (sought q) x.0 y.0 l h)
      go Equal h e = ap is_le (fits.same (sought q) y.0 x.0 h ∙ l)
      go Greater h e = absurd cc

  module _ {V Z : Type 0} (h : ℕ) (n : Node K V Z) (l : IsLevelled h n) (o : IsAscending cmp (pairs_of n)) (i : ℕ) (c : List (K × V))
      (is : IsAround n i c) where
    -- Before a cut are the pairs before the child at its place, and those of the child.
    pub before_at : (cut : Cut Q) → TurnsAt (λ e. leads order sought cut e.0) (own_pairs n) i
        → before order sought cut (pairs_of n) ≡ length (before_child n i) + before order sought cut c
    before_at cut r =
        ap (before order sought cut) is ∙ lead_and_inside (λ e. leads order sought cut e.0) (before_child n i) c (after_child n i)
        (holds_before cmp _ (leads_below cut) h n l o i r) (fails_after cmp _ (leads_below cut) h n l o i r.fails)

    -- Amid two cuts at one place are pairs of the child alone.
    pub amid_at : (lo hi : Cut Q) → TurnsAt (λ e. leads order sought lo e.0) (own_pairs n) i → FailsAt (λ e. leads order sought hi e.0) (own_pairs n) i
        → amid order sought lo hi (pairs_of n) ≡ amid order sought lo hi c
    amid_at lo hi r f =
        ap (amid order sought lo hi) is ∙ inside_alone (λ e. not (leads order sought lo e.0) && leads order sought hi e.0) (before_child n i) c
        (after_child n i)
        (all_map _ _ (λ e h. ap (λ b. not b && leads order sought hi e.0) h) _ (holds_before cmp _ (leads_below lo) h n l o i r))
        (all_map _ _ (λ e h. ap (λ b. not (leads order sought lo e.0) && b) h ∙ both_false (leads order sought lo e.0)) _
        (fails_after cmp _ (leads_below hi) h n l o i f))
      where
        both_false : (b : Bool) → (not b && false) ≡ false
        both_false true = refl
        both_false false = refl

    -- So before the second come the pairs before the child, and those of the child up to there.
    pub both_at : (lo hi : Cut Q) (stop : ℕ) → IsTurn (λ e. leads order sought lo e.0) (own_pairs n) 0 i
        → IsTurn (λ e. leads order sought hi e.0) (own_pairs n) i stop → stop ≤ i
        → before order sought lo (pairs_of n) + amid order sought lo hi (pairs_of n)
        ≡ length (before_child n i) + (before order sought lo c + amid order sought lo hi c)
    both_at lo hi stop r v le =
        let same : stop ≡ i = (omega arith) in
        let turn = turn_first r in
        let a = before_at lo turn in
        let b = amid_at lo hi turn (subst (FailsAt (λ e. leads order sought hi e.0) (own_pairs n)) same v.fails) in
        omega (arith, a, b)

  -- The two cuts part at a pair of the node.
  pub amid_parted : {V Z : Type 0} (h : ℕ) (n : Node K V Z) → IsLevelled h n → IsAscending cmp (pairs_of n) → (lo hi : Cut Q) (start stop : ℕ) → start < stop
      → TurnsAt (λ e. leads order sought lo e.0) (own_pairs n) start → IsTurn (λ e. leads order sought hi e.0) (own_pairs n) start stop
      → before order sought hi (pairs_of n) ≡ before order sought lo (pairs_of n) + amid order sought lo hi (pairs_of n)
  amid_parted h n l o lo hi start stop lt r v =
      let k : start < length (own_pairs n) = (omega arith) in
      let x = (item_there (own_pairs n) start k).0 in
      let p = get_or (own_pairs n) start x in
      let is = own_pair h n start x l k in
      subst (λ s. before order sought hi s ≡ before order sought lo s + amid order sought lo hi s) (sym is)
      (parted_counts cmp (λ e. leads order sought lo e.0) (λ e. leads order sought hi e.0) (leads_below lo) (leads_below hi) (before_own n start)
      (after_own n start) p (subst (IsAscending cmp) is o) (r.fails x k) (v.holds start x (omega arith) lt))

  -- Where a range has but one bound.
  pub amid_open : {V : Type 0} (lo hi : Cut Q) → ((lo ≡ First) ⊎ (hi ≡ Last)) → (s : List (K × V))
      → before order sought hi s ≡ before order sought lo s + amid order sought lo hi s
  amid_open lo hi e s = counts_amid (λ e. leads order sought lo e.0) (λ e. leads order sought hi e.0) s (each _ (λ x. under x.0) s)
    where
      under : (k : K) → leads order sought lo k ≡ true → leads order sought hi k ≡ true
      under k h = elim e [
        | inl f ↦ absurd (let no : false ≡ true = ap (λ c. leads order sought c k) (sym f) ∙ h in cc)
        | inr f ↦
            ap (λ c. leads order sought c k) f
      ]

  -- What cuts are to bounds.
  start_leads : (lo : Bound Q) (k : K) → not (leads order sought (start_cut lo) k) ≡ starts order (bound_by sought lo) k
  start_leads (Included q) k = elim (order k (sought q)) as (λ r. not (is_lt r) ≡ is_ge r) [ Less ↦ refl | Equal ↦ refl | Greater ↦ refl ]
  start_leads (Excluded q) k = elim (order k (sought q)) as (λ r. not (is_le r) ≡ is_gt r) [ Less ↦ refl | Equal ↦ refl | Greater ↦ refl ]
  start_leads Unbounded k = refl

  stop_leads : (hi : Bound Q) (k : K) → leads order sought (stop_cut hi) k ≡ stops order (bound_by sought hi) k
  stop_leads (Included q) k = refl
  stop_leads (Excluded q) k = refl
  stop_leads Unbounded k = refl

  module _ {V : Type 0} (lo hi : Bound Q) (s : List (K × V)) where
    start_counts : before order sought (start_cut lo) s + length (filter (λ e. starts order (bound_by sought lo) e.0) s) ≡ length s
    start_counts =
        ap (λ zs. before order sought (start_cut lo) s + length zs)
        (sym (filter_agree (λ e. not (leads order sought (start_cut lo) e.0)) (λ e. starts order (bound_by sought lo) e.0) (λ e. start_leads lo e.0) s))
        ∙ both_counts (λ e. leads order sought (start_cut lo) e.0) s

    within_is : filter (λ e. not (leads order sought (start_cut lo) e.0) && leads order sought (stop_cut hi) e.0) s
        ≡ within order (bound_by sought lo) (bound_by sought hi) s
    within_is = filter_agree _ _ (λ e. ap (λ b. b && leads order sought (stop_cut hi) e.0) (start_leads lo e.0)
        ∙ ap (λ b. starts order (bound_by sought lo) e.0 && b) (stop_leads hi e.0)) s

    -- So many pairs lie before a range's start, and so many before its end.
    abbrev pub AreEnds : ℕ → ℕ → Type 0
    AreEnds i j = (i + length (filter (λ e. starts order (bound_by sought lo) e.0) s) ≡ length s)
        × (j ≡ i + length (within order (bound_by sought lo) (bound_by sought hi) s))

    -- Before a range are the pairs before its first cut, and in it those amid both.
    pub ends_told : (a b : Cut Q) (i j : ℕ) → a ≡ start_cut lo → b ≡ stop_cut hi → i ≡ before order sought a s
        → j ≡ before order sought a s + amid order sought a b s → AreEnds i j
    ends_told a b i j ea eb ei ej =
        let first = ap (λ c. before order sought c s) ea in
        let inside = ap (λ c. amid order sought c b s) ea ∙ ap (λ c. amid order sought (start_cut lo) c s) eb ∙ ap length within_is in
        (omega (arith, ei, first, start_counts), omega (arith, ei, ej, inside))

    -- They lie together.
    pub within_at : (i j : ℕ) → IsAscending cmp s → i + length (filter (λ e. starts order (bound_by sought lo) e.0) s) ≡ length s
        → j ≡ i + length (within order (bound_by sought lo) (bound_by sought hi) s)
        → slice_range s i j ≡ within order (bound_by sought lo) (bound_by sought hi) s
    within_at i j o e f =
        let a : i ≡ before order sought (start_cut lo) s = (let c = start_counts in omega (arith, c, e)) in
        let b : j ≡ before order sought (start_cut lo) s + amid order sought (start_cut lo) (stop_cut hi) s = f
        ∙ ap (λ k. k + length (within order (bound_by sought lo) (bound_by sought hi) s)) a
        ∙ ap (λ k. before order sought (start_cut lo) s + k) (sym (ap length within_is)) in
        ap (λ k. slice_range s k j) a ∙ ap (slice_range s (before order sought (start_cut lo) s)) b
        ∙ amid_is cmp (λ e. leads order sought (start_cut lo) e.0) (λ e. leads order sought (stop_cut hi) e.0) (leads_below (start_cut lo))
        (leads_below (stop_cut hi)) s o ∙ within_is

  -- Where a range has but one bound, they are all pairs of a map on that side of its cut.
  module _ {V Z : Type 0} (lo hi : Bound Q) (m : Map K V Z) (n : Node K V Z) (is : m ≡ Some n) (o : IsAscending cmp (entries m)) where
    abbrev In : Map K V Z → List (K × V)
    In d = within order (bound_by sought lo) (bound_by sought hi) (entries d)

    one_bound : (a b : Cut Q) → a ≡ start_cut lo → b ≡ stop_cut hi → ((a ≡ First) ⊎ (b ≡ Last))
        → slice_range (pairs_of n) (before order sought a (pairs_of n)) (before order sought b (pairs_of n)) ≡ In m
    one_bound a b e f one =
        let t = ends_told lo hi (pairs_of n) a b _ _ e f refl (amid_open a b one (pairs_of n)) in
        within_at lo hi (pairs_of n) _ _ (subst (λ d. IsAscending cmp (entries d)) is o) t.0 t.1 ∙ ap In (sym is)

    pub start_alone : (cut : Cut Q) → cut ≡ start_cut lo → hi ≡ Unbounded
        → slice_range (pairs_of n) (before order sought cut (pairs_of n)) (length (pairs_of n)) ≡ In m
    start_alone cut e f =
        ap (slice_range (pairs_of n) (before order sought cut (pairs_of n))) (sym (ap length (kept _ (pairs_of n) (each _ (λ x. refl) (pairs_of n)))))
        ∙ one_bound cut Last e (sym (ap stop_cut f)) (inr refl)

    pub stop_alone : (cut : Cut Q) → cut ≡ stop_cut hi → lo ≡ Unbounded
        → slice_range (pairs_of n) 0 (before order sought cut (pairs_of n)) ≡ In m
    stop_alone cut e f =
        ap (λ k. slice_range (pairs_of n) k (before order sought cut (pairs_of n)))
        (sym (ap length (left_out _ (pairs_of n) (each _ (λ x. refl) (pairs_of n)))))
        ∙ one_bound First cut (sym (ap start_cut f)) e (inl refl)

  -- In a map they lie between the gaps of a range's ends.
  pub range_in : {V Z : Type 0} (lo hi : Bound Q) (m : Map K V Z) (n : Node K V Z) (front back : List ℕ) → m ≡ Some n → IsAscending cmp (entries m)
      → IsLeafGap front n × IsLeafGap back n → length (before_gap front n) + length (filter (λ e. starts order (bound_by sought lo) e.0) (pairs_of n))
      ≡ length (pairs_of n)
      → length (before_gap back n) ≡ length (before_gap front n) + length (within order (bound_by sought lo) (bound_by sought hi) (pairs_of n))
      → AreEndsIn m front back × (between m front back ≡ within order (bound_by sought lo) (bound_by sought hi) (entries m))
  range_in lo hi m n front back is o gaps e f =
      subst (λ d. AreEndsIn d front back × (between d front back ≡ within order (bound_by sought lo) (bound_by sought hi) (entries d))) (sym is)
      ((gaps.0, gaps.1, omega (arith, f)), within_at lo hi (pairs_of n) _ _ (subst (λ d. IsAscending cmp (entries d)) is o) e f)
