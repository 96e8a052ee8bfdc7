-- A walk from one gap of a tree to another: where it stands in a node. Paths and places are those of the tree without its values.
use Rattle.std.proofs.Common.{◌≡◌, ℕ, zero, suc, ◌+◌, ◌-◌, ◌<◌, ◌≤◌, List, [], ◌∷◌, ◌++◌, length, drop, get_or, Some, refl, sym, ap, subst, ◌∙◌}
use Rattle.std.proofs.Common.{arith}
use Rattle.std.proofs.lemmas.List.{length-append, length-drop, get_or_read}
use Rattle.fc_tree_node.specs.declared.node.Node.{Node}
use Rattle.fc_tree_node.specs.Node.{own_pairs, children_of, child_at, pairs_of, IsLevelled, IsLeaf, IsInner}
use Rattle.fc_tree_node.specs.Path.{before_gap, after_gap}
use Rattle.fc_tree_node.specs.Place.{before_child, after_child, before_own, after_own}
use Rattle.fc_tree_node.specs.Measures.{nodes_of}
use Rattle.fc_tree_node.proofs.MeasureFacts.{fewer_nodes}
use Rattle.fc_tree_node.proofs.Pairs.{child_below, leaf_pairs}
use Rattle.fc_tree_node.proofs.Lists.{length_take}
use Rattle.fc_tree_node.proofs.Lent.{replaced}
use Rattle.fc_tree_node.proofs.Formed.{leaf_or_inner}
use Rattle.fc_tree_cursor.proofs.Outer.{leaf_before}
use Rattle.fc_tree_node.proofs.Gaps.{item_there, inner_gap, own_pair, gap_pairs}
use Rattle.fc_tree_search.specs.Written.{with_value, with_child, written}
use Rattle.fc_tree_search.proofs.WrittenPairs.{written_pairs, bare_value, bare_set}
use Rattle.fc_tree_cursor.proofs.GapFacts.{inner_length, inner_before, next_before, leaf_before_own}
use Rattle.fc_tree_node.specs.Bare.{bare}
use Rattle.fc_tree_cursor.specs.Ends.{AreInOrder, IsEnd}
use Rattle.fc_tree_cursor.proofs.PathEnds.{order_onward, end_inside, ends_order, end_below, front_parts, back_parts, leaf_front, leaf_back}
use Rattle.fc_tree_node.proofs.Bare.{bare_size, bare_many, bare_child, bare_before, bare_count, levels_back, same_levels, same_size}
use Rattle.fc_tree_for_each.specs.Visits.{IsVisitedAt}
use Rattle.fc_tree_for_each.proofs.Turns.{at_first, at_one, at_part, at_join}

module _ {K V Z : Type 0} where
  -- the ends of a walk in a node
  abbrev pub AreEnds : Node K V Z → List ℕ → List ℕ → Type 0
  AreEnds n from to = (h : ℕ) × IsLevelled h (bare n) × IsEnd h from (bare n) × IsEnd h to (bare n)

  -- what an end has on either side is part of the pairs
  within : (h : ℕ) (n : Node K V Z) (path : List ℕ) → IsLevelled h n → IsEnd h path n
      → (length (before_gap path n) ≤ length (pairs_of n)) × (length (after_gap path n) ≤ length (pairs_of n))
  within h n [] l e = (omega arith, omega arith)
  within h n (i ∷ path) l e =
      let g = ap length (gap_pairs (i ∷ path) h n l (e.1 (omega arith)) e.0) ∙ length-append (before_gap (i ∷ path) n) (after_gap (i ∷ path) n) in
      (omega arith, omega arith)

module _ {F K V Z : Type 0} (R : F → K × V → F → V → Type 0) where
  -- before the child at i, from an end below it on; all that is said of places is said of one tree, which stays
  pub record IsAt (old now : Node K V Z) (first f : F) (from to : List ℕ) (i end : ℕ) (rest back : List ℕ) : Type 0 where
    pub h : ℕ
    pub levels : IsLevelled (suc h) (bare old)
    pub le : i ≤ end
    pub last : end ≤ length (own_pairs (bare old))
    pub start : IsEnd h rest (child_at (bare old) i)
    pub stop : IsEnd h back (child_at (bare old) end)
    pub order : i ≡ end → AreInOrder rest back
    pub tail : length (after_gap to (bare old)) ≡ length (after_gap back (child_at (bare old) end)) + length (after_child (bare old) end)
    pub same : bare now ≡ bare old
    pub visited : IsVisitedAt R first f (length (before_gap from (bare old))) (length (before_gap (i ∷ rest) (bare old))) (pairs_of old) (pairs_of now)

  at_start : (h : ℕ) (n : Node K V Z) (f : F) (from to : List ℕ) → IsLevelled (suc h) (bare n) → IsEnd (suc h) from (bare n) → IsEnd (suc h) to (bare n)
      → AreInOrder from to → IsAt n n f f from to (get_or from 0 0) (get_or to 0 (length (own_pairs (bare n)))) (drop 1 from) (drop 1 to)
  at_start h n f from to l a b o =
      let B = bare n in
      let end = get_or to 0 (length (own_pairs B)) in
      record {
        h = h;
        levels = l;
        le = ends_order (suc h) from to B a o;
        last = end_inside (suc h) to B (length (own_pairs B)) b (omega arith);
        start = end_below h from B 0 a;
        stop = end_below h to B (length (own_pairs B)) b;
        order = order_onward from to (length (own_pairs B)) o;
        tail = ap length (sym (back_parts to B end refl)) ∙ length-append (after_gap (drop 1 to) (child_at B end)) (after_child B end);
        same = refl;
        visited = subst (λ k. IsVisitedAt R f f (length (before_gap from B)) k (pairs_of n) (pairs_of n)) (ap length (front_parts from B))
            (at_first R f (length (before_gap from B)) (pairs_of n) (omega (arith, (within (suc h) B from l a).0, bare_count n)));
      }

  pub begun : (n : Node K V Z) (f : F) (from to : List ℕ) (start end len : ℕ) (rest back : List ℕ) → AreEnds n from to → (IsLeaf n → ⊥) → AreInOrder from to
      → start ≡ get_or from 0 0 → rest ≡ drop 1 from → end ≡ get_or to 0 len → back ≡ drop 1 to → len ≡ length (own_pairs n)
      → IsAt n n f f from to start end rest back
  begun n f from to start end len rest back (zero, l, a, b) leaf o s r e k m = absurd (leaf (levels_back zero n l).1)
  begun n f from to start end len rest back (suc h, l, a, b) leaf o s r e k m = rw (s, r, e, k, m, sym (bare_size n)) (at_start h n f from to l a b o)

  -- the child at the place, lent out of the node's list
  pub record IsLent (h : ℕ) (old now c : Node K V Z) (i : ℕ) (rest : List ℕ) : Type 0 where
    pub inner : IsInner now
    pub is : c ≡ child_at now i
    pub bare_is : bare c ≡ child_at (bare old) i
    pub levels : IsLevelled h (bare c)
    pub start : IsEnd h rest (bare c)
    pub fewer : nodes_of (bare c) < nodes_of (bare old)

  pub child_room : {old now : Node K V Z} {first f : F} {from to rest back : List ℕ} {i end : ℕ} → IsAt old now first f from to i end rest back
      → (i < length (children_of now)) × IsInner now × (length (own_pairs now) ≡ length (own_pairs (bare old)))
  child_room {old = old} {now = now} at =
      let a = bare_size now in
      let b = bare_many now in
      let s : length (own_pairs (bare now)) ≡ length (own_pairs (bare old)) = ap (λ x. length (own_pairs x)) at.same in
      let m : length (children_of (bare now)) ≡ length (children_of (bare old)) = ap (λ x. length (children_of x)) at.same in
      (omega (arith, at.levels.1, at.le, at.last), omega (arith, at.levels.1), omega arith)

  pub lent : {old now c : Node K V Z} {first f : F} {from to rest back : List ℕ} {i end : ℕ} (at : IsAt old now first f from to i end rest back)
      → c ≡ get_or (children_of now) i c → IsLent at.h old now c i rest
  lent {old = old} {now = now} {c = c} {i = i} at p =
      let r = child_room at in
      let is = get_or_read (children_of now) i c r.0 p now in
      let b : bare c ≡ child_at (bare old) i = ap bare is ∙ sym (bare_child now i) ∙ ap (λ x. child_at x i) at.same in
      let below = child_below at.h (bare old) i at.levels (omega (arith, at.le, at.last)) in
      record {
        inner = r.1;
        is = is;
        bare_is = b;
        levels = subst (IsLevelled at.h) (sym b) below.1;
        start = subst (IsEnd at.h _) (sym b) at.start;
        fewer = fewer_nodes (bare old) (bare c) i (omega (arith, at.levels.1, at.le, at.last)) b;
      }

  -- past a part of the child
  child_step : (c' : Node K V Z) {old now c : Node K V Z} {first f g : F} {from to rest back : List ℕ} {i end : ℕ}
      (at : IsAt old now first f from to i end rest back) → IsLent at.h old now c i rest → (b : ℕ)
      → IsVisitedAt R f g (length (before_gap rest (bare c))) b (pairs_of c) (pairs_of c') → bare c' ≡ bare c
      → (bare (with_child now i c') ≡ bare old)
      × IsVisitedAt R first g (length (before_gap from (bare old))) (length (before_child (bare old) i) + b) (pairs_of old) (pairs_of (with_child now i c'))
  child_step c' {old = old} {now = now} {c = c} {first = first} {f = f} {g = g} {from = from} {rest = rest} {i = i} at x b v same =
      let le : i ≤ length (own_pairs now) = omega (arith, (child_room at).2, at.le, at.last) in
      let lead : length (before_child (bare old) i) ≡ length (before_child now i) = ap (λ t. length (before_child t i)) (sym at.same) ∙ bare_before now i in
      let here = ap (λ t. length (before_gap rest t)) x.bare_is in
      let all = length-append (before_child (bare old) i) (before_gap rest (child_at (bare old) i)) in (
        bare_set now i c' (same ∙ ap bare x.is) ∙ at.same,
        at_join R first f g (length (before_gap from (bare old))) (length (before_gap (i ∷ rest) (bare old))) (length (before_child (bare old) i) + b)
            (pairs_of old) (pairs_of now) (pairs_of (with_child now i c')) at.visited
            (at_part R (before_child now i) (after_child now i) f g (length (before_gap rest (bare c))) b _ _ (pairs_of c) (pairs_of c') _ _ v
            (inner_gap now i x.inner le ∙ ap (λ d. before_child now i ++ (pairs_of d ++ after_child now i)) (sym x.is))
            ((replaced now i c').pairs x.inner le) (omega (arith, all, here, lead)) (omega (arith, lead))),
      )

  -- a node's own pair
  pub own_step : (h : ℕ) (n : Node K V Z) (i : ℕ) (e : K × V) (w : V) (f g : F) → IsLevelled h n → i < length (own_pairs n) → R f e g w
      → e ≡ get_or (own_pairs n) i e
      → IsVisitedAt R f g (length (before_own n i)) (length (before_own n i) + 1) (pairs_of n) (pairs_of (with_value n i w))
  unfolding written
  own_step h n i e w f g l lt r p =
      let there = item_there (own_pairs n) i lt in
      at_one R e f g w (before_own n i) (after_own n i) (pairs_of n) (pairs_of (with_value n i w)) (length (before_own n i)) r
      (own_pair h n i e l lt ∙ ap (λ x. before_own n i ++ x ∷ after_own n i) (sym p))
      (written_pairs (i ∷ []) h n e w l lt (there.2 ∙ ap Some (sym (there.1 e) ∙ sym p))) refl

  -- over the child and the pair after it
  pub at_next : (c' : Node K V Z) {old now c : Node K V Z} {first f g k : F} {from to rest back : List ℕ} {i end : ℕ} {e : K × V} {w : V}
      → (at : IsAt old now first f from to i end rest back) → i < end → IsLent at.h old now c i rest
      → IsVisitedAt R f g (length (before_gap rest (bare c))) (length (pairs_of (bare c)) - 0) (pairs_of c) (pairs_of c') → bare c' ≡ bare c → R g e k w
      → e ≡ get_or (own_pairs (with_child now i c')) i e → IsAt old (with_value (with_child now i c') i w) first k from to (i + 1) end [] back
  at_next c' {old = old} {now = now} {c = c} {first = first} {g = g} {k = k} {from = from} {i = i} {e = e} {w = w} at lt x v same r p =
      let B = bare old in
      let m = with_child now i c' in
      let s = child_step c' at x _ v same in
      let l = levels_back (suc at.h) m (subst (IsLevelled (suc at.h)) (sym s.0) at.levels) in
      let size : length (own_pairs m) ≡ length (own_pairs B) = sym (bare_size m) ∙ ap (λ t. length (own_pairs t)) s.0 in
      let inside : i < length (own_pairs B) = omega (arith, at.last) in
      let here = ap (λ t. length (pairs_of t)) x.bare_is in
      let place = inner_before at.h m i l (omega arith) in
      let lead : length (before_child m i) ≡ length (before_child B i) = sym (bare_before m i) ∙ ap (λ t. length (before_child t i)) s.0 in
      let child : length (pairs_of (child_at m i)) ≡ length (pairs_of (child_at B i)) =
      sym (bare_count (child_at m i)) ∙ ap (λ t. length (pairs_of t)) (sym (bare_child m i) ∙ ap (λ t. child_at t i) s.0) in
      let before = next_before (suc at.h) B i at.levels inside in
      let own = inner_before at.h B i at.levels inside in
      let none = length-append (before_child B (i + 1)) [] in
      let t : IsVisitedAt R first g (length (before_gap from B)) (length (before_own m i)) (pairs_of old) (pairs_of m) =
      subst (λ j. IsVisitedAt R first g (length (before_gap from B)) j (pairs_of old) (pairs_of m)) (omega arith) s.1 in
      record {
        h = at.h;
        levels = at.levels;
        le = omega arith;
        last = at.last;
        start = (tt, λ q. absurd (omega arith));
        stop = at.stop;
        order = λ q. tt;
        tail = at.tail;
        same = bare_value m i w ∙ s.0;
        visited = subst (λ j. IsVisitedAt R first k (length (before_gap from B)) j (pairs_of old) (pairs_of (with_value m i w))) (omega arith)
            (at_join R first g k (length (before_gap from B)) (length (before_own m i)) (length (before_own m i) + 1) (pairs_of old) (pairs_of m)
            (pairs_of (with_value m i w)) t (own_step (suc at.h) m i e w g k l (omega arith) r p));
      }

  -- over the last child
  pub at_end : (c' : Node K V Z) {old now c : Node K V Z} {first f g : F} {from to rest back : List ℕ} {i end : ℕ}
      (at : IsAt old now first f from to i end rest back) → i ≡ end → IsLent at.h old now c i rest
      → IsVisitedAt R f g (length (before_gap rest (bare c))) (length (pairs_of (bare c)) - length (after_gap back (bare c))) (pairs_of c) (pairs_of c')
      → bare c' ≡ bare c
      → (bare (with_child now i c') ≡ bare old) × IsVisitedAt R first g (length (before_gap from (bare old)))
      (length (pairs_of (bare old)) - length (after_gap to (bare old))) (pairs_of old) (pairs_of (with_child now i c'))
  at_end c' {old = old} {now = now} {c = c} {first = first} {g = g} {from = from} {to = to} {back = back} {i = i} {end = end} at e x v same =
      let s = child_step c' at x _ v same in
      let here = ap (λ t. length (pairs_of t)) x.bare_is in
      let left = ap (λ t. length (after_gap back t)) x.bare_is in
      let tail = subst (λ j. length (after_gap to (bare old)) ≡ length (after_gap back (child_at (bare old) j)) + length (after_child (bare old) j)) (sym e)
      at.tail in
      let all = inner_length at.h (bare old) i at.levels (omega (arith, at.last)) in
      let b = child_below at.h (bare old) i at.levels (omega (arith, at.last)) in
      let inside = within at.h (child_at (bare old) i) back b.1 (subst (λ j. IsEnd at.h back (child_at (bare old) j)) (sym e) at.stop) in
      (s.0, subst (λ j. IsVisitedAt R first g (length (before_gap from (bare old))) j (pairs_of old) (pairs_of (with_child now i c'))) (omega arith) s.1)

  pub at_last : {old now : Node K V Z} {first f : F} {from to rest back : List ℕ} {i end : ℕ} → IsAt old now first f from to i end rest back → end ≤ i
      → IsAt old now first f from to end end rest back
  at_last {old = old} {now = now} {first = first} {f = f} {from = from} {to = to} {rest = rest} {back = back} {i = i} {end = end} at ge =
      let e : i ≡ end = omega (arith, at.le) in
      subst (λ j. IsAt old now first f from to j end rest back) e at

module _ {K V Z : Type 0} where
  -- in a leaf the ends are places
  pub record IsLeafPart (n : Node K V Z) (from to : List ℕ) (start end : ℕ) : Type 0 where
    pub levels : IsLevelled 0 n
    pub order : (start ≤ end) × (end ≤ length (own_pairs n))
    pub front : start ≡ length (before_gap from (bare n))
    pub back : end ≡ length (pairs_of (bare n)) - length (after_gap to (bare n))

  pub leaf_part : (n : Node K V Z) (from to : List ℕ) (start end len : ℕ) → AreEnds n from to → IsLeaf n → AreInOrder from to
      → start ≡ get_or from 0 0 → end ≡ get_or to 0 len → len ≡ length (own_pairs n) → IsLeafPart n from to start end
  leaf_part n from to start end len (zero, l, a, b) leaf o s e m =
      let B = bare n in
      let z = bare_size n in
      let last : end ≡ get_or to 0 (length (own_pairs B)) = e ∙ ap (get_or to 0) (m ∙ sym z) in
      let le = ends_order 0 from to B a o in
      let inside = end_inside 0 to B (length (own_pairs B)) b (omega arith) in
      let p = ap length (leaf_pairs B l.1) in
      let q = ap length (leaf_back to B l.1 b) ∙ length-drop (get_or to 0 (length (own_pairs B))) (own_pairs B) in
      record {
        levels = levels_back 0 n l;
        order = (omega arith, omega arith);
        front = s ∙ sym (ap length (leaf_front from B l.1 a) ∙ length_take (get_or from 0 0) (own_pairs B) (omega arith));
        back = omega arith;
      }
  leaf_part n from to start end len (suc h, l, a, b) leaf o s e m = absurd (leaf_or_inner n leaf (levels_back (suc h) n l).1)

module _ {F K V Z : Type 0} (R : F → K × V → F → V → Type 0) where
  -- over a pair of a leaf
  pub leaf_next : (old n : Node K V Z) (i : ℕ) (e : K × V) (w : V) {first f g : F} {start : ℕ} → IsLevelled 0 old → bare n ≡ bare old
      → i < length (own_pairs old) → IsVisitedAt R first f start i (pairs_of old) (pairs_of n) → R f e g w → e ≡ get_or (own_pairs n) i e
      → (bare (with_value n i w) ≡ bare old) × IsVisitedAt R first g start (i + 1) (pairs_of old) (pairs_of (with_value n i w))
  leaf_next old n i e w {first = first} {f = f} {g = g} {start = start} l same lt at r p =
      let m = same_levels old n same 0 l in
      let size = same_size old n same in
      let place : length (before_own n i) ≡ i = leaf_before_own n i m (omega arith) ∙ leaf_before n i m.1 (omega arith) in
      let s = own_step R 0 n i e w f g m (omega arith) r p in (
        bare_value n i w ∙ same,
        at_join R first f g start i (i + 1) (pairs_of old) (pairs_of n) (pairs_of (with_value n i w)) at
            (subst (λ j. IsVisitedAt R f g j (j + 1) (pairs_of n) (pairs_of (with_value n i w))) place s),
      )
