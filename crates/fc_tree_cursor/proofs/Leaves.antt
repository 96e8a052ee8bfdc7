-- The gaps of one leaf lie together, and the pairs between them are pairs of the leaf.
use Rattle.std.proofs.Common.{◌≡◌, ℕ, zero, suc, ◌+◌, ◌-◌, ◌<◌, ◌≤◌, List, [], ◌∷◌, ◌++◌, length, map, take, drop, get_or, refl, sym, ap, subst, ◌∙◌, arith}
use Rattle.std.proofs.Common.{Bool, true, false, IsTrue, Some, None, ◌⊎◌, inl, inr, length-append, append_assoc, append-nil}
use Rattle.std.specs.Prelude.{◌↔◌, if◌then◌else◌, slice_range, slice_set}
use Rattle.std.proofs.lemmas.Bool.{cases_lt}
use Rattle.std.proofs.lemmas.List.{set-get_or, get_or-set_same, nil_from_length}
use Rattle.fc_tree_node.specs.declared.node.Node.{Node}
use Rattle.fc_tree_node.specs.Leaf.{leaf_at}
use Rattle.fc_tree_node.specs.LeafGap.{IsLeafGap}
use Rattle.fc_tree_node.specs.Node.{own_pairs, child_at, pairs_of, IsLeaf, IsLevelled}
use Rattle.fc_tree_node.specs.Path.{IsPath, before_gap, after_gap}
use Rattle.fc_tree_node.specs.Place.{before_child, after_child}
use Rattle.fc_tree_node.specs.Tree.{Map, IsSoundMap}
use Rattle.fc_tree_node.specs.Weave.{before_list}
use Rattle.fc_tree_node.proofs.Gaps.{inner_gap, gap_pairs}
use Rattle.fc_tree_node.proofs.Lists.{take_nil, length_take, length_set, set_is}
use Rattle.fc_tree_node.proofs.Pairs.{leaf_children, leaf_pairs, child_below}
use Rattle.fc_tree_cursor.specs.Gap.{IsGapIn, AreEndsIn, IsLeafEnd, IsLeafStart}
use Rattle.fc_tree_cursor.specs.Span.{between}
use Rattle.fc_tree_cursor.proofs.Meetings.{earlier}
use Rattle.fc_tree_cursor.proofs.Slices.{slice_none, slice_length, slice_split, slice_inner}

-- A path with the last step of another one that leads to the same leaf is that one.
same_set : (g q : List ℕ) (h : ℕ) → length g ≡ h + 1 → length q ≡ h + 1 → take h g ≡ take h q → slice_set g h (get_or q h 0) ≡ q
same_set [] q h a b e = absurd (omega arith)
same_set (x ∷ g) [] h a b e = absurd (omega arith)
same_set (x ∷ g) (y ∷ q) zero a b e = ap (λ r. y ∷ r) (nil_from_length g (omega arith) ∙ sym (nil_from_length q (omega arith)))
same_set (x ∷ g) (y ∷ q) (suc h) a b e =
    let s : x ≡ y = cc in
    let t : take h g ≡ take h q = cc in
    ap (λ z. z ∷ slice_set g h (get_or q h 0)) s ∙ ap (λ r. y ∷ r) (same_set g q h (omega arith) (omega arith) t)

-- A path with another last step.
other_last : (g : List ℕ) (h j : ℕ) → length g ≡ h + 1 → slice_set g h j ≡ take h g ++ j ∷ []
other_last g h j e = set_is g h j (omega arith) ∙ ap (λ r. take h g ++ j ∷ r) (nil_from_length (drop (suc h) g) (dropped g h e))
  where
    dropped : (g : List ℕ) (h : ℕ) → length g ≡ h + 1 → length (drop (suc h) g) ≡ 0
    dropped [] h e = refl
    dropped (x ∷ g) zero e = omega arith
    dropped (x ∷ g) (suc h) e = dropped g h (omega arith)

-- What the last step is once it is set.
last_set : (g : List ℕ) (h j : ℕ) → length g ≡ h + 1 → get_or (slice_set g h j) (length (slice_set g h j) - 1) 0 ≡ j
last_set g h j e =
    let long = length_set g h j in
    let last : length (slice_set g h j) - 1 ≡ h = omega arith in
    ap (λ k. get_or (slice_set g h j) k 0) last ∙ get_or-set_same g h j 0 (omega arith)

module _ {K V Z : Type 0} where
  -- Another last step leads to the same leaf.
  same_leaf : (g : List ℕ) (h j : ℕ) (n : Node K V Z) → length g ≡ h + 1 → leaf_at (slice_set g h j) n ≡ leaf_at g n
  same_leaf [] h j n e = refl
  same_leaf (i ∷ []) zero j n e = refl
  same_leaf (i ∷ []) (suc h) j n e = absurd (omega arith)
  same_leaf (i ∷ k ∷ g) zero j n e = absurd (omega arith)
  same_leaf (i ∷ k ∷ []) (suc zero) j n e = refl
  same_leaf (i ∷ k ∷ []) (suc (suc h)) j n e = absurd (omega arith)
  same_leaf (i ∷ k ∷ l ∷ g) (suc zero) j n e = absurd (omega arith)
  same_leaf (i ∷ k ∷ l ∷ g) (suc (suc h)) j n e = same_leaf (k ∷ l ∷ g) (suc h) j (child_at n i) (omega arith)

  -- A gap whose last step is set to the end of its leaf, or to the start.
  pub end_set : (m : Map K V Z) (n leaf : Node K V Z) (g to : List ℕ) (h j : ℕ) → m ≡ Some n → IsSoundMap m → IsGapIn m g → leaf ≡ leaf_at g n
      → h ≡ length g - 1 → to ≡ slice_set g h j → j ≡ length (own_pairs leaf) → IsLeafEnd m to
  end_set None n leaf g to h j is sound gap at la set end = absurd cc
  end_set (Some root) n leaf g to h j is sound gap at la set end =
      let some = gap.1 sound.0 sound.2.1 in
      let long : length g ≡ h + 1 = omega arith in
      let same : n ≡ root = cc in
      let there = at ∙ ap (leaf_at g) same ∙ sym (same_leaf g h j root long) in
      subst (IsLeafEnd (Some root)) (sym set) (last_set g h j long ∙ end ∙ ap (λ l. length (own_pairs l)) there)

  pub start_set : (m : Map K V Z) (n : Node K V Z) (g to : List ℕ) (h j : ℕ) → m ≡ Some n → IsSoundMap m → IsGapIn m g → h ≡ length g - 1
      → to ≡ slice_set g h j → j ≡ 0 → IsLeafStart m to
  start_set None n g to h j is sound gap la set start = absurd cc
  start_set (Some root) n g to h j is sound gap la set start =
      let some = gap.1 sound.0 sound.2.1 in
      let long : length g ≡ h + 1 = omega arith in
      subst (IsLeafStart (Some root)) (sym set) (last_set g h j long ∙ start)

  -- A leaf has its own pairs alone on either side of a gap.
  pub leaf_before_child : (n : Node K V Z) (i : ℕ) → IsLeaf n → before_child n i ≡ take i (own_pairs n)
  leaf_before_child n i l = ap (λ cs. before_list (map pairs_of (take i cs)) (take i (own_pairs n))) (leaf_children n l)
      ∙ ap (λ cs. before_list (map pairs_of cs) (take i (own_pairs n))) (take_nil i)

  -- A gap of another leaf that is not before a leaf's gap k is after its gap e too.
  pub apart_leaf : (f : List ℕ) (h : ℕ) (n : Node K V Z) (k e : ℕ) (q : List ℕ) → IsLevelled h n → IsPath (f ++ k ∷ []) n → IsPath (f ++ e ∷ []) n → IsPath q n
      → length f ≡ h → length q ≡ h + 1
      → (take h q ≡ f → ⊥) → length (before_gap (f ++ k ∷ []) n) ≤ length (before_gap q n) → length (before_gap (f ++ e ∷ []) n) < length (before_gap q n)
  apart_leaf [] zero n k e q l v w x a b other le = absurd (other refl)
  apart_leaf [] (suc h) n k e q l v w x a b other le = absurd (omega arith)
  apart_leaf (i ∷ f) zero n k e q l v w x a b other le = absurd (omega arith)
  apart_leaf (i ∷ f) (suc h) n k e [] l v w x a b other le = absurd (omega arith)
  apart_leaf (i ∷ f) (suc h) n k e (j ∷ q) l v w x a b other le =
      order (λ y u m. apart_leaf f h (child_at n i) k e q (child_below h n i l v.0).1 v.1 w.1 y (omega arith) (omega arith) u m) (cases_lt i j) (cases_lt j i)
    where
      Below : Type 0
      Below = IsPath q (child_at n i) → (take h q ≡ f → ⊥) → length (before_gap (f ++ k ∷ []) (child_at n i)) ≤ length (before_gap q (child_at n i))
          → length (before_gap (f ++ e ∷ []) (child_at n i)) < length (before_gap q (child_at n i))

      same : Below → i ≡ j → length (before_gap (i ∷ (f ++ e ∷ [])) n) < length (before_gap (j ∷ q) n)
      same below s =
          let y = subst (λ m. IsPath q (child_at n m)) (sym s) x.1 in
          let g : length (before_gap (j ∷ q) n) ≡ length (before_gap (i ∷ q) n) = ap (λ m. length (before_gap (m ∷ q) n)) (sym s) in
          let p = length-append (before_child n i) (before_gap (f ++ k ∷ []) (child_at n i)) in
          let r = length-append (before_child n i) (before_gap (f ++ e ∷ []) (child_at n i)) in
          let t = length-append (before_child n i) (before_gap q (child_at n i)) in
          let c = below y (λ u. other (ap (λ m. m ∷ take h q) (sym s) ∙ ap (λ z. i ∷ z) u)) (omega (arith, le, g, p, t)) in
          omega (arith, c, g, r, t)

      order : Below → (i < j) ⊎ (j ≤ i) → (j < i) ⊎ (i ≤ j) → length (before_gap (i ∷ (f ++ e ∷ [])) n) < length (before_gap (j ∷ q) n)
      order below (inl lt) o = earlier (suc h) n i j (f ++ e ∷ []) q l lt x.0 w.1 (let z = length-append f (e ∷ []) in omega (arith, z))
      order below (inr ge) (inl gt) = absurd (let c = earlier (suc h) n j i q (f ++ k ∷ []) l gt v.0 x.1 (omega arith) in omega (arith, c, le))
      order below (inr ge) (inr leq) = same below (omega arith)

  -- The leaf of a path of one step.
  pub leaf_here : (g : List ℕ) (n : Node K V Z) → length g ≡ 1 → n ≡ leaf_at g n
  leaf_here [] n e = refl
  leaf_here (i ∷ []) n e = refl
  leaf_here (i ∷ j ∷ g) n e = absurd (omega arith)

  -- A tree's pairs, cut at the leaf of a gap.
  record IsLeafCut (g : List ℕ) (h : ℕ) (n : Node K V Z) : Type 0 where
    pub low : List (K × V)
    pub high : List (K × V)
    pub parts : pairs_of n ≡ low ++ (own_pairs (leaf_at g n) ++ high)
    pub within : get_or g h 0 ≤ length (own_pairs (leaf_at g n))
    pub way : (j : ℕ) → j ≤ length (own_pairs (leaf_at g n)) → IsPath (slice_set g h j) n
    pub count : (j : ℕ) → j ≤ length (own_pairs (leaf_at g n)) → length (before_gap (slice_set g h j) n) ≡ length low + j
    pub leaf : (j : ℕ) → leaf_at (slice_set g h j) n ≡ leaf_at g n

  leaf_cut : (g : List ℕ) (h : ℕ) (n : Node K V Z) → IsLevelled h n → length g ≡ h + 1 → IsPath g n → IsLeafCut g h n
  leaf_cut [] h n l e p = absurd (omega arith)
  leaf_cut (i ∷ []) zero n l e p =
      record {
        low = [];
        high = [];
        parts = leaf_pairs n l.1 ∙ sym (append-nil (own_pairs n));
        within = p.0;
        way = λ j k. (k, tt);
        count = λ j k.
            let a = ap length (append-nil (before_child n j) ∙ leaf_before_child n j l.1) in
            let b = length_take j (own_pairs n) k in
            omega (arith, a, b);
        leaf = λ j. refl;
      }
  leaf_cut (i ∷ []) (suc h) n l e p = absurd (omega arith)
  leaf_cut (i ∷ k ∷ g) zero n l e p = absurd (omega arith)
  leaf_cut (i ∷ k ∷ g) (suc h) n l e p =
      let c = child_at n i in
      let r = leaf_cut (k ∷ g) h c (child_below h n i l p.0).1 (omega arith) p.1 in
      record {
        low = before_child n i ++ r.low;
        high = r.high ++ after_child n i;
        parts = inner_gap n i l.1 p.0 ∙ ap (λ zs. before_child n i ++ (zs ++ after_child n i)) r.parts
            ∙ regroup (before_child n i) r.low (own_pairs (leaf_at (k ∷ g) c)) r.high (after_child n i);
        within = r.within;
        way = λ j m. (p.0, r.way j m);
        count = λ j m.
            let a = length-append (before_child n i) (before_gap (slice_set (k ∷ g) h j) c) in
            let b = length-append (before_child n i) r.low in
            let d = r.count j m in
            omega (arith, a, b, d);
        leaf = λ j. below h j ∙ r.leaf j;
      }
    where
      regroup : (a b m c d : List (K × V)) → a ++ ((b ++ (m ++ c)) ++ d) ≡ (a ++ b) ++ (m ++ (c ++ d))
      regroup a b m c d = simp append_assoc

      below : (h j : ℕ) → leaf_at (i ∷ slice_set (k ∷ g) h j) n ≡ leaf_at (slice_set (k ∷ g) h j) (child_at n i)
      below zero j = refl
      below (suc h) j = refl

  -- The front goes on to another gap of its leaf, not after the back.
  pub record FrontTaken (m : Map K V Z) (front back : List ℕ) (leaf : Node K V Z) (last end : ℕ) : Type 0 where
    pub order : get_or front last 0 ≤ end
    pub fits : end ≤ length (own_pairs leaf)
    pub ends : AreEndsIn m (slice_set front last end) back
    pub run : between m front back ≡ slice_range (own_pairs leaf) (get_or front last 0) end ++ between m (slice_set front last end) back

  -- The back goes back to another gap of its leaf, not after the front.
  pub record BackTaken (m : Map K V Z) (front back : List ℕ) (leaf : Node K V Z) (last start : ℕ) : Type 0 where
    pub order : start ≤ get_or back last 0
    pub fits : get_or back last 0 ≤ length (own_pairs leaf)
    pub ends : AreEndsIn m front (slice_set back last start)
    pub run : between m front back ≡ between m front (slice_set back last start) ++ slice_range (own_pairs leaf) start (get_or back last 0)

  module _ (n : Node K V Z) (h : ℕ) (l : IsLevelled h n) where
    deep : (g : List ℕ) → IsLeafGap g n → length g ≡ h + 1
    deep g w = w.1 h l

    cut_of : (g : List ℕ) → IsLeafGap g n → IsLeafCut g h n
    cut_of g w = leaf_cut g h n l (deep g w) w.0

    -- Another gap of the leaf.
    moved : (g : List ℕ) → IsLeafGap g n → (j : ℕ) → j ≤ length (own_pairs (leaf_at g n)) → IsLeafGap (slice_set g h j) n
    moved g w j k = ((cut_of g w).way j k, λ m o. length_set g h j ∙ w.1 m o)

    here : (g : List ℕ) → (w : IsLeafGap g n) → length (before_gap g n) ≡ length (cut_of g w).low + get_or g h 0
    here g w = ap (λ p. length (before_gap p n)) (sym (set-get_or g h 0)) ∙ (cut_of g w).count (get_or g h 0) (cut_of g w).within

    -- The pairs between two gaps of the leaf.
    taken : (g : List ℕ) (w : IsLeafGap g n) (i j : ℕ) → i ≤ j → j ≤ length (own_pairs (leaf_at g n))
        → slice_range (pairs_of n) (length (cut_of g w).low + i) (length (cut_of g w).low + j) ≡ slice_range (own_pairs (leaf_at g n)) i j
    taken g w i j a b = let c = cut_of g w in ap (λ xs. slice_range xs (length c.low + i) (length c.low + j)) c.parts
        ∙ slice_inner c.low (own_pairs (leaf_at g n)) c.high i j a b

    -- The gap of another end in the same leaf.
    other_here : (g q : List ℕ) (w : IsLeafGap g n) → IsLeafGap q n → take h g ≡ take h q
        → (get_or q h 0 ≤ length (own_pairs (leaf_at g n))) × (length (before_gap q n) ≡ length (cut_of g w).low + get_or q h 0)
    other_here g q w v e =
        let s = same_set g q h (deep g w) (deep q v) e in
        let c = cut_of g w in
        let same : leaf_at q n ≡ leaf_at g n = ap (λ p. leaf_at p n) (sym s) ∙ c.leaf (get_or q h 0) in
        let k = subst (λ m. get_or q h 0 ≤ length (own_pairs m)) same (cut_of q v).within in
        (k, ap (λ p. length (before_gap p n)) (sym s) ∙ c.count (get_or q h 0) k)

    front_took : (front back : List ℕ) (w : IsLeafGap front n) (end : ℕ) → IsLeafGap back n → get_or front h 0 ≤ end
        → end ≤ length (own_pairs (leaf_at front n)) → length (cut_of front w).low + end ≤ length (before_gap back n)
        → FrontTaken (Some n) front back (leaf_at front n) h end
    front_took front back w end v a b d =
        let c = cut_of front w in
        let s = c.count end b in
        let now = here front w in
        record {
          order = a;
          fits = b;
          ends = (moved front w end b, v, omega (arith, s, d));
          run = slice_split (pairs_of n) _ (length c.low + end) _ (omega (arith, now)) d
              ∙ ap (λ zs. zs ++ slice_range (pairs_of n) (length c.low + end) (length (before_gap back n)))
              (ap (λ k. slice_range (pairs_of n) k (length c.low + end)) now ∙ taken front w (get_or front h 0) end a b)
              ∙ ap (λ k. slice_range (own_pairs (leaf_at front n)) (get_or front h 0) end ++ slice_range (pairs_of n) k (length (before_gap back n))) (sym s);
        }

    back_took : (front back : List ℕ) (w : IsLeafGap back n) (start : ℕ) → IsLeafGap front n → start ≤ get_or back h 0
        → length (before_gap front n) ≤ length (cut_of back w).low + start → BackTaken (Some n) front back (leaf_at back n) h start
    back_took front back w start v a d =
        let c = cut_of back w in
        let f = c.within in
        let s = c.count start (omega arith) in
        let now = here back w in
        record {
          order = a;
          fits = f;
          ends = (v, moved back w start (omega arith), omega (arith, s, d));
          run = slice_split (pairs_of n) _ (length c.low + start) _ d (omega (arith, now))
              ∙ ap (λ zs. slice_range (pairs_of n) (length (before_gap front n)) (length c.low + start) ++ zs)
              (ap (λ k. slice_range (pairs_of n) (length c.low + start) k) now ∙ taken back w start (get_or back h 0) a f)
              ∙ ap (λ k. slice_range (pairs_of n) (length (before_gap front n)) k ++ slice_range (own_pairs (leaf_at back n)) start (get_or back h 0)) (sym s);
        }

    -- All gaps of the front's leaf are before a back in another leaf.
    all_before : (g q : List ℕ) (w : IsLeafGap g n) → IsLeafGap q n → (take h g ≡ take h q → ⊥) → length (before_gap g n) ≤ length (before_gap q n) → (j : ℕ)
        → j ≤ length (own_pairs (leaf_at g n)) → length (cut_of g w).low + j < length (before_gap q n)
    all_before g q w v other le j k =
        let c = cut_of g w in
        let s : g ≡ take h g ++ get_or g h 0 ∷ [] = sym (set-get_or g h 0) ∙ other_last g h (get_or g h 0) (deep g w) in
        let t = other_last g h j (deep g w) in
        let long : length (take h g) ≡ h = length_take h g (let d = deep g w in omega arith) in
        let r = apart_leaf (take h g) h n (get_or g h 0) j q l (subst (λ p. IsPath p n) s w.0) (subst (λ p. IsPath p n) t (c.way j k)) v.0 long (deep q v)
        (λ e. other (sym e)) (subst (λ p. length (before_gap p n) ≤ length (before_gap q n)) s le) in
        let m = c.count j k in
        let u = ap (λ p. length (before_gap p n)) t in
        omega (arith, r, m, u)

    -- And all gaps of the back's leaf are after a front in another leaf.
    all_after : (g q : List ℕ) (w : IsLeafGap q n) → IsLeafGap g n → (take h q ≡ take h g → ⊥) → length (before_gap g n) ≤ length (before_gap q n)
        → length (before_gap g n) < length (cut_of q w).low + 0
    all_after g q w v other le = order (cases_lt (length (before_gap g n)) (length (cut_of q w).low + 0))
      where
        order : (length (before_gap g n) < length (cut_of q w).low + 0) ⊎ (length (cut_of q w).low + 0 ≤ length (before_gap g n))
            → length (before_gap g n) < length (cut_of q w).low + 0
        order (inl lt) = lt
        order (inr ge) =
            let c = cut_of q w in
            let s = other_last q h 0 (deep q w) in
            let t : q ≡ take h q ++ get_or q h 0 ∷ [] = sym (set-get_or q h 0) ∙ other_last q h (get_or q h 0) (deep q w) in
            let long : length (take h q) ≡ h = length_take h q (let d = deep q w in omega arith) in
            let m = c.count 0 (omega arith) in
            let u = ap (λ p. length (before_gap p n)) s in
            let r = apart_leaf (take h q) h n 0 (get_or q h 0) g l (subst (λ p. IsPath p n) s (c.way 0 (omega arith))) (subst (λ p. IsPath p n) t w.0) v.0 long
            (deep g v) (λ e. other (sym e)) (omega (arith, ge, m, u)) in
            let x = ap (λ p. length (before_gap p n)) t in
            absurd (omega (arith, r, x, le))

    some_left : (front back : List ℕ) → IsLeafGap back n → length (before_gap front n) < length (before_gap back n) → between (Some n) front back ≡ [] → ⊥
    some_left front back w lt e =
        let all = ap length (gap_pairs back h n l (deep back w) w.0) ∙ length-append (before_gap back n) (after_gap back n) in
        let long = slice_length (pairs_of n) (length (before_gap front n)) (length (before_gap back n)) (omega arith) in
        let none = ap length e in
        omega (arith, long, none, lt)

    -- ---- What is taken up to the other end, and what in another leaf.
    front_meets : (front back : List ℕ) → AreEndsIn (Some n) front back → take h front ≡ take h back
        → FrontTaken (Some n) front back (leaf_at front n) h (get_or back h 0) × (between (Some n) (slice_set front h (get_or back h 0)) back ≡ [])
    front_meets front back ends e =
        let w = ends.0 in
        let o = other_here front back w ends.1 e in
        let now = here front w in
        let s = (cut_of front w).count (get_or back h 0) o.0 in
        let same = o.1 in
        (front_took front back w (get_or back h 0) ends.1 (omega arith) o.0 (omega arith), slice_none (pairs_of n) _ _ (s ∙ sym same))

    front_leaves : (front back : List ℕ) → AreEndsIn (Some n) front back → (take h front ≡ take h back → ⊥)
        → FrontTaken (Some n) front back (leaf_at front n) h (length (own_pairs (leaf_at front n)))
        × (between (Some n) (slice_set front h (length (own_pairs (leaf_at front n)))) back ≡ [] → ⊥)
    front_leaves front back ends other =
        let w = ends.0 in
        let c = cut_of front w in
        let end = length (own_pairs (leaf_at front n)) in
        let lt = all_before front back w ends.1 other ends.2 end (omega arith) in
        let s = c.count end (omega arith) in
        (front_took front back w end ends.1 c.within (omega arith) (omega arith), some_left (slice_set front h end) back ends.1 (omega (arith, s, lt)))

    back_meets : (front back : List ℕ) → AreEndsIn (Some n) front back → take h back ≡ take h front
        → BackTaken (Some n) front back (leaf_at back n) h (get_or front h 0) × (between (Some n) front (slice_set back h (get_or front h 0)) ≡ [])
    back_meets front back ends e =
        let w = ends.1 in
        let o = other_here back front w ends.0 e in
        let now = here back w in
        let s = (cut_of back w).count (get_or front h 0) o.0 in
        let same = o.1 in
        (back_took front back w (get_or front h 0) ends.0 (omega arith) (omega arith), slice_none (pairs_of n) _ _ (same ∙ sym s))

    back_leaves : (front back : List ℕ) → AreEndsIn (Some n) front back → (take h back ≡ take h front → ⊥)
        → BackTaken (Some n) front back (leaf_at back n) h 0 × (between (Some n) front (slice_set back h 0) ≡ [] → ⊥)
    back_leaves front back ends other =
        let w = ends.1 in
        let lt = all_after front back w ends.0 other ends.2 in
        let s = (cut_of back w).count 0 (omega arith) in (
          back_took front back w 0 ends.0 (omega arith) (omega arith),
          some_left front (slice_set back h 0) (moved back w 0 (omega arith))
              (omega (arith, s, lt)),
        )

  -- ---- The same in a map, as far as an end reaches.
  pub front_takes : (m : Map K V Z) (n leaf : Node K V Z) (front back : List ℕ) (last end : ℕ) (met : Bool) → m ≡ Some n → IsSoundMap m → AreEndsIn m front back
      → leaf ≡ leaf_at front n → last ≡ length front - 1
      → (IsTrue met ↔ (take (length front - 1) front ≡ take (length front - 1) back))
      → end ≡ (if met then get_or back (length front - 1) 0 else length (own_pairs leaf))
      → FrontTaken m front back leaf last end × (IsTrue met ↔ (between m (slice_set front last end) back ≡ []))
  front_takes None n leaf front back last end met is o ends at la e f = absurd cc
  front_takes (Some root) n leaf front back last end met is o ends at la e f =
      subst (λ d. FrontTaken (Some root) front back d last end × (IsTrue met ↔ (between (Some root) (slice_set front last end) back ≡ []))) (sym there)
      (subst (λ k. FrontTaken (Some root) front back (leaf_at front root) k end × (IsTrue met ↔ (between (Some root) (slice_set front k end) back ≡ [])))
      (sym la) (go met e (f ∙ ap (λ d. if met then get_or back (length front - 1) 0 else length (own_pairs d)) there)))
    where
      there : leaf ≡ leaf_at front root
      there = at ∙ ap (leaf_at front) (let same : n ≡ root = cc in same)

      l : IsLevelled (length front - 1) root
      l = let long = ends.0.1 o.0 o.2.1 in let h : o.0 ≡ length front - 1 = omega arith in subst (λ j. IsLevelled j root) h o.2.1

      go : (b : Bool) → (IsTrue b ↔ (take (length front - 1) front ≡ take (length front - 1) back))
          → end ≡ (if b then get_or back (length front - 1) 0 else length (own_pairs (leaf_at front root)))
          → FrontTaken (Some root) front back (leaf_at front root) (length front - 1) end
          × (IsTrue b ↔ (between (Some root) (slice_set front (length front - 1) end) back ≡ []))
      go true e f =
          let r = front_meets root (length front - 1) l front back ends (e.0 refl) in
          rw f (r.0, ((λ _. r.1), (λ _. refl)))
      go false e f =
          let r = front_leaves root (length front - 1) l front back ends (λ s. absurd (let no : false ≡ true = e.1 s in cc)) in
          rw f (r.0, ((λ t. absurd (let no : false ≡ true = t in cc)), (λ s. absurd (r.1 s))))

  pub back_takes : (m : Map K V Z) (n leaf : Node K V Z) (front back : List ℕ) (last start : ℕ) (met : Bool) → m ≡ Some n → IsSoundMap m
      → AreEndsIn m front back
      → leaf ≡ leaf_at back n → last ≡ length back - 1
      → (IsTrue met ↔ (take (length back - 1) back ≡ take (length back - 1) front)) → start ≡ (if met then get_or front (length back - 1) 0 else 0)
      → BackTaken m front back leaf last start × (IsTrue met ↔ (between m front (slice_set back last start) ≡ []))
  back_takes None n leaf front back last start met is o ends at la e f = absurd cc
  back_takes (Some root) n leaf front back last start met is o ends at la e f =
      subst (λ d. BackTaken (Some root) front back d last start × (IsTrue met ↔ (between (Some root) front (slice_set back last start) ≡ [])))
      (sym (at ∙ ap (leaf_at back) (let same : n ≡ root = cc in same)))
      (subst (λ k. BackTaken (Some root) front back (leaf_at back root) k start × (IsTrue met ↔ (between (Some root) front (slice_set back k start) ≡ [])))
      (sym la) (go met e f))
    where
      l : IsLevelled (length back - 1) root
      l = let long = ends.1.1 o.0 o.2.1 in let h : o.0 ≡ length back - 1 = omega arith in subst (λ j. IsLevelled j root) h o.2.1

      go : (b : Bool) → (IsTrue b ↔ (take (length back - 1) back ≡ take (length back - 1) front)) → start ≡ (if b then get_or front (length back - 1) 0 else 0)
          → BackTaken (Some root) front back (leaf_at back root) (length back - 1) start
          × (IsTrue b ↔ (between (Some root) front (slice_set back (length back - 1) start) ≡ []))
      go true e f =
          let r = back_meets root (length back - 1) l front back ends (e.0 refl) in
          rw f (r.0, ((λ _. r.1), (λ _. refl)))
      go false e f =
          let r = back_leaves root (length back - 1) l front back ends (λ s. absurd (let no : false ≡ true = e.1 s in cc)) in
          rw f (r.0, ((λ t. absurd (let no : false ≡ true = t in cc)), (λ s. absurd (r.1 s))))
