-- A node whose child on the border has a tree grafted on it.
use Rattle.std.proofs.Common.{◌≡◌, ℕ, suc, ◌+◌, ◌<◌, ◌≤◌, List, [], ◌∷◌, ◌++◌, length, take, drop, refl, sym, ap, subst, ◌∙◌, arith, append_assoc}
use Rattle.std.proofs.Common.{append-nil, Some, None, IfSome, MatchOption}
use Rattle.std.specs.List.{AllByRecursion, insert}
use Rattle.fc_base.specs.Sizes.{capacity}
use Rattle.fc_tree_node.specs.declared.node.Node.{Node}
use Rattle.fc_tree_node.specs.Node.{own_pairs, children_of, child_at, pairs_of, IsInner, IsLevelled, IsSound}
use Rattle.fc_tree_node.specs.Bordered.{FirstThen, LastAfter, IsLeftBordered, IsRightBordered}
use Rattle.fc_tree_node.specs.Place.{before_child, after_child}
use Rattle.fc_tree_node.proofs.Lists.{length_take, set_is, set_put, all_take, all_drop}
use Rattle.fc_tree_node.proofs.Gaps.{drop_all, inner_gap, after_none}
use Rattle.fc_tree_node.proofs.Lent.{IsReplaced}
use Rattle.fc_tree_node.proofs.Pairs.{child_below}
use Rattle.fc_tree_split.specs.Border.{IsBordered, border_place}
use Rattle.fc_tree_split.specs.declared.rebalancing.Border.{Border}
use Rattle.fc_tree_split.specs.declared.rebalancing.Border.TheVariants.{Left, Right}
use Rattle.fc_tree_split.proofs.Borders.{first_split, last_join, last_split, border_closed, levelled_bordered}
use Rattle.fc_tree_insertion.specs.Insertion.{Split, spread, own_pairs_after, children_after, IsHalved}
use Rattle.fc_tree_insertion.proofs.InsertedPairs.{split_pairs}
use Rattle.fc_tree_append.specs.Grafted.{beside, AreHalves, IsGrafted, IsPlacedBeside}

module _ {X : Type 0} where
  -- on that side of a list nothing stands
  abbrev IsOuter : Border → List X → List X → Type 0
  IsOuter Left before after = before ≡ []
  IsOuter Right before after = after ≡ []

  beside_around : (s : Border) (a own b : List X) (p : X) (o : List X) → IsOuter s a b → a ++ (beside s own p o ++ b) ≡ beside s (a ++ (own ++ b)) p o
  beside_around Left a own b p o e = rw e (append_assoc o (p ∷ own) b)
  beside_around Right a own b p o e =
      rw e (ap (λ zs. a ++ zs) (append-nil (own ++ p ∷ o)) ∙ sym (append_assoc a own (p ∷ o)) ∙ ap (λ zs. (a ++ zs) ++ p ∷ o) (sym (append-nil own)))

module _ {K V Z : Type 0} where
  outer : (s : Border) (n : Node K V Z) (i : ℕ) → i ≡ border_place s n → IsOuter s (before_child n i) (after_child n i)
  outer Left n i e = ap (before_child n) e
  outer Right n i e = let q : i ≡ length (own_pairs n) = e in after_none n i (omega arith)

  -- the child at the place is on the border of the node
  pub record IsOnBorder (s : Border) (g : ℕ) (n : Node K V Z) (i : ℕ) : Type 0 where
    pub place : i ≡ border_place s n
    pub levels : IsLevelled (suc g) n
    pub le : i ≤ length (own_pairs n)
    pub there : i < length (children_of n)
    pub child : IsSound g (child_at n i)

  place_le : (s : Border) (n : Node K V Z) (i : ℕ) → i ≡ border_place s n → i ≤ length (own_pairs n)
  place_le Left n i e = let q : i ≡ 0 = e in omega arith
  place_le Right n i e = let q : i ≡ length (own_pairs n) = e in omega arith

  pub on_border : (s : Border) (g : ℕ) (n : Node K V Z) (i : ℕ) → IsLevelled (suc g) n → i ≡ border_place s n → IsOnBorder s g n i
  on_border s g n i l p =
      let le = place_le s n i p in
      record { place = p; levels = l; le = le; there = omega arith; child = child_below g n i l le }

  -- the other node put on that side of a node of its level
  pub placed_pairs : (s : Border) (old other new right : Node K V Z) (p : K × V) → IsPlacedBeside s old other new right
      → pairs_of new ++ p ∷ pairs_of right ≡ beside s (pairs_of old) p (pairs_of other)
  placed_pairs Left old other new right p e = ap (λ n. pairs_of n ++ p ∷ pairs_of right) e.0 ∙ ap (λ n. pairs_of other ++ p ∷ pairs_of n) e.1
  placed_pairs Right old other new right p e = ap (λ n. pairs_of n ++ p ∷ pairs_of right) e.0 ∙ ap (λ n. pairs_of old ++ p ∷ pairs_of n) e.1

  pub placed_levels : (s : Border) (h : ℕ) (old other new right : Node K V Z) → IsPlacedBeside s old other new right → IsSound h old → IsLevelled h other
      → AreHalves s h new right
  placed_levels Left h old other new right e a b = (subst (IsLeftBordered h) (sym e.0) (levelled_bordered Left h other b), subst (IsSound h) (sym e.1) a)
  placed_levels Right h old other new right e a b = (subst (IsSound h) (sym e.0) a, subst (IsRightBordered h) (sym e.1) (levelled_bordered Right h other b))

  -- a node takes at most one spare node
  pub used_most : (t : Split K V Z) (old new : ℕ) → MatchOption t (new ≡ old) (λ _. new + 1 ≡ old) → old ≤ new + 1
  used_most None old new e = omega arith
  used_most (Some x) old new e = omega arith

  place_kept : (s : Border) (old mid : Node K V Z) → own_pairs mid ≡ own_pairs old → border_place s mid ≡ border_place s old
  place_kept Left old mid e = refl
  place_kept Right old mid e = ap length e

  -- children of which the one on the border may be short
  abbrev AreBordered : Border → ℕ → List (Node K V Z) → Type 0
  AreBordered Left g = FirstThen (IsLeftBordered g) (IsSound g)
  AreBordered Right g = LastAfter (IsRightBordered g) (IsSound g)

  bordered_of : (s : Border) (g : ℕ) (n : Node K V Z) → length (own_pairs n) ≤ capacity → IsInner n → AreBordered s g (children_of n) → IsBordered s (suc g) n
  bordered_of Left g n le i a = (le, i, a)
  bordered_of Right g n le i a = (le, i, a)

  -- two halves among sound children
  halves_among : (s : Border) (g : ℕ) (c r : Node K V Z) (front back : List (Node K V Z)) → IsOuter s front back → AllByRecursion (IsSound g) front
      → AllByRecursion (IsSound g) back → AreHalves s g c r → AreBordered s g (front ++ c ∷ r ∷ back)
  halves_among Left g c r front back e a b h = subst (λ xs. FirstThen (IsLeftBordered g) (IsSound g) (xs ++ c ∷ r ∷ back)) (sym e) (h.0, (h.1, b))
  halves_among Right g c r front back e a b h =
      subst (λ xs. LastAfter (IsRightBordered g) (IsSound g) (front ++ c ∷ r ∷ xs)) (sym e)
      (last_join (IsRightBordered g) (IsSound g) front (c ∷ r ∷ []) (omega arith) a h)

  some_child : (n : Node K V Z) → IsInner n → 0 < length (children_of n)
  some_child n i = let e : length (children_of n) ≡ length (own_pairs n) + 1 = i in omega arith

  -- such children in a node, or in the two that it was halved into
  grafted_of : (s : Border) (g : ℕ) (new : Node K V Z) (t : Split K V Z) → AreBordered s g (children_after new t) → IsInner new → IfSome t (λ x. IsInner x.1)
      → MatchOption t (length (own_pairs new) ≤ capacity) (λ x. IsHalved new × IsHalved x.1) → IsGrafted s (suc g) new t
  grafted_of s g new None a i j m = bordered_of s g new m i a
  grafted_of Left g new (Some (up, r)) a i j m =
      let t = first_split (IsLeftBordered g) (IsSound g) (children_of new) (children_of r) (some_child new i) a in
      ((omega arith, i, t.0), (m.1.0, (omega arith, j, t.1)))
  grafted_of Right g new (Some (up, r)) a i j m =
      let t = last_split (IsRightBordered g) (IsSound g) (children_of new) (children_of r) (some_child r j) a in
      ((m.0.0, (omega arith, i, t.0)), (omega arith, j, t.1))

  module _ (s : Border) (g : ℕ) (old mid c : Node K V Z) (i : ℕ) (on : IsOnBorder s g old i) (m : IsReplaced old mid i c) where
    -- the node, whose child on the border is now c
    pub stay_pairs : (p : K × V) (other : List (K × V)) → pairs_of c ≡ beside s (pairs_of (child_at old i)) p other
        → pairs_of mid ≡ beside s (pairs_of old) p other
    stay_pairs p other e =
        m.pairs on.levels.1 on.le ∙ ap (λ zs. before_child old i ++ (zs ++ after_child old i)) e
        ∙ beside_around s (before_child old i) (pairs_of (child_at old i)) (after_child old i) p other (outer s old i on.place)
        ∙ ap (λ zs. beside s zs p other) (sym (inner_gap old i on.levels.1 on.le))

    pub stay_levels : IsBordered s g c → IsBordered s (suc g) mid
    stay_levels b =
        let cs = children_of old in
        let there = on.there in
        border_closed s g mid c (take i cs) (drop (suc i) cs) (omega arith) (m.inner on.levels.1) (m.child ∙ set_is cs i c there)
        (length_take i cs (omega arith) ∙ on.place ∙ sym (place_kept s old mid m.same)) (all_take (IsSound g) i cs on.levels.2) b
        (all_drop (IsSound g) (suc i) cs on.levels.2)

    -- the same once it has taken the pair and the node that the child has handed out
    pub put_pairs : (p : K × V) (other : List (K × V)) (new r : Node K V Z) (t : Split K V Z) (up : K × V) → own_pairs_after new t ≡ insert (own_pairs mid) i up
        → children_after new t ≡ insert (children_of mid) (i + 1) r → IsInner new → IfSome t (λ x. IsInner x.1)
        → pairs_of c ++ up ∷ pairs_of r ≡ beside s (pairs_of (child_at old i)) p other → spread new t ≡ beside s (pairs_of old) p other
    put_pairs p other new r t up q f h k e =
        split_pairs old i on.le on.levels.1 mid c new t up r m q f h k ∙ ap (λ zs. before_child old i ++ (zs ++ after_child old i)) e
        ∙ beside_around s (before_child old i) (pairs_of (child_at old i)) (after_child old i) p other (outer s old i on.place)
        ∙ ap (λ zs. beside s zs p other) (sym (inner_gap old i on.levels.1 on.le))

    around_outer : (t : Border) → i ≡ border_place t old → IsOuter t (take i (children_of old)) (drop (suc i) (children_of old))
    around_outer Left e = ap (λ k. take k (children_of old)) e
    around_outer Right e =
        let q : i ≡ length (own_pairs old) = e in drop_all (children_of old)
        (suc i) (omega arith)

    pub put_levels : (new r : Node K V Z) (t : Split K V Z) (up : K × V) → IsGrafted s g c (Some (up, r))
        → children_after new t ≡ insert (children_of mid) (i + 1) r → IsInner new → IfSome t (λ x. IsInner x.1)
        → MatchOption t (length (own_pairs new) ≤ capacity) (λ x. IsHalved new × IsHalved x.1) → IsGrafted s (suc g) new t
    put_levels new r t up u f h k size =
        let cs = children_of old in
        let is = f ∙ ap (λ zs. insert zs (i + 1) r) m.child ∙ set_put cs i c r on.there in
        grafted_of s g new t (subst (AreBordered s g) (sym is)
        (halves_among s g c r (take i cs) (drop (suc i) cs) (around_outer s on.place) (all_take (IsSound g) i cs on.levels.2)
        (all_drop (IsSound g) (suc i) cs on.levels.2) u)) h k size

  -- a new root above the two
  pub root_bordered : (s : Border) (g : ℕ) (root left : Node K V Z) (up : K × V) (right : Node K V Z) → own_pairs root ≡ up ∷ []
      → children_of root ≡ left ∷ right ∷ [] → IsGrafted s g left (Some (up, right)) → IsBordered s (suc g) root
  root_bordered s g root left up right e f h =
      let n : length (own_pairs root) ≡ 1 = ap length e in
      let k : length (children_of root) ≡ 2 = ap length f in
      bordered_of s g root (omega arith) (omega arith) (subst (AreBordered s g) (sym f) (two s h))
    where
      two : (s : Border) → AreHalves s g left right → AreBordered s g (left ∷ right ∷ [])
      two Left h = (h.0, (h.1, tt))
      two Right h = h
