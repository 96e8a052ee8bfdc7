-- A walk over the pairs of a node, of which some do not stay.
use Rattle.std.proofs.Common.{◌≡◌, ℕ, suc, zero, ◌+◌, ◌<◌, ◌≤◌, List, [], ◌∷◌, ◌++◌, length, get_or, map, take, drop, refl, sym, ap, subst, ◌∙◌, arith}
use Rattle.std.proofs.Common.{append_assoc, append-nil, Option, Some, None, MatchOption, inr}
use Rattle.std.specs.Prelude.{Bool, true, false, slice_set, ⊤}
use Rattle.std.specs.List.{AllByRecursion, remove}
use Rattle.std.specs.Option.{option_to_list}
use Rattle.std.proofs.lemmas.List.{length-map, map-append, length-append, get_or_default, nil_from_length}
use Rattle.fc_tree_node.specs.Weave.{weave, before_list}
use Rattle.fc_tree_node.specs.declared.node.Node.{Node, out-Node}
use Rattle.fc_tree_node.specs.Node.{own_pairs, children_of, child_at, pairs_of, IsInner}
use Rattle.fc_tree_node.specs.Place.{before_child, after_child}
use Rattle.fc_tree_node.proofs.Lists.{all_both, all_front, all_take, all_drop}
use Rattle.fc_tree_node.proofs.Weaves.{weave_parts}
use Rattle.fc_tree_node.proofs.Pairs.{pairs_is}
use Rattle.fc_tree_node.proofs.Made.{field_made}
use Rattle.fc_tree_node.proofs.Lent.{replaced_all, IsReplaced}
use Rattle.fc_tree_node.proofs.Formed.{leaf_or_inner}
use Rattle.fc_tree_node.proofs.Gaps.{inner_gap, after_none}
use Rattle.fc_tree_search.specs.Written.{set_value, with_value}
use Rattle.fc_tree_search.proofs.WrittenPairs.{value_own, value_children, value_size}
use Rattle.fc_tree_retain.specs.Unbalanced.{IsUnbalanced}
use Rattle.fc_tree_retain.specs.Rebalancing.{IsUnderfull}
use Rattle.fc_tree_retain.specs.Retained.{RetainsInTurn}
use Rattle.fc_tree_retain.specs.Filtered.{IsPassed, IsOwnPassed}
use Rattle.fc_tree_retain.specs.Stretch.{IsLeafRangeFiltered}
use Rattle.fc_tree_retain.proofs.Levels.{unbalanced_child, only_underfull}
use Rattle.fc_tree_retain.proofs.Lists.{at_place, drop_place, set_place, remove_place}
use Rattle.fc_tree_retain.proofs.Turns.{retains_join, retains_one, retains_none}
use Rattle.fc_tree_retain.proofs.Opened.{IsOpenAt, open_before, open_child, open_after, open_inner, open_next, before_next, opened_two}

module _ {K V : Type 0} where
  pub value_place : (xs ys : List (K × V)) (x : K × V) (w : V) (i : ℕ) → length xs ≡ i → set_value (xs ++ x ∷ ys) i w ≡ xs ++ (x.0, w) ∷ ys
  value_place xs ys x w i e = subst (λ j. set_value (xs ++ x ∷ ys) j w ≡ xs ++ (x.0, w) ∷ ys) e (go xs)
    where
      go : (xs : List (K × V)) → set_value (xs ++ x ∷ ys) (length xs) w ≡ xs ++ (x.0, w) ∷ ys
      go [] = refl
      go (z ∷ xs) = ap (λ zs. z ∷ zs) (go xs)

-- what holds where there is nothing
pub if_none : {X P Q : Type 0} (r : Option X) → (P → Q) → MatchOption r P (λ _. ⊤) → MatchOption r Q (λ _. ⊤)
if_none None f p = f p
if_none (Some x) f p = p

module _ {K V Z : Type 0} where
  -- a node with another value
  pub record IsWritten (old mid : Node K V Z) (i : ℕ) (w : V) : Type 0 where
    pub own : own_pairs mid ≡ set_value (own_pairs old) i w
    pub size : length (own_pairs mid) ≡ length (own_pairs old)
    pub children : children_of mid ≡ children_of old
    pub inner : IsInner old → IsInner mid
    pub child : IsInner old → i ≤ length (own_pairs old) → child_at mid i ≡ child_at old i

  pub is_written : (old mid : Node K V Z) (i : ℕ) (w : V) → mid ≡ with_value old i w → IsWritten old mid i w
  is_written old mid i w n =
      let o : own_pairs mid ≡ set_value (own_pairs old) i w = ap own_pairs n ∙ value_own old i w in
      let z : length (own_pairs mid) ≡ length (own_pairs old) = ap (λ m. length (own_pairs m)) n ∙ value_size old i w in
      let cs : children_of mid ≡ children_of old = ap children_of n ∙ value_children old i w in
      let m : length (children_of mid) ≡ length (children_of old) = ap length cs in
      record {
        own = o;
        size = z;
        children = cs;
        inner = λ k. let k' : length (children_of old) ≡ length (own_pairs old) + 1 = k in omega arith;
        child = λ k le. let k' : length (children_of old) ≡ length (own_pairs old) + 1 = k in ap (λ xs. get_or xs i mid) cs
            ∙ get_or_default (children_of old) i mid old (omega arith);
      }

  pub written_leaf : (old mid : Node K V Z) (i : ℕ) (w : V) → IsUnbalanced 0 old → mid ≡ with_value old i w → IsUnbalanced 0 mid
  written_leaf old mid i w l n =
      let z = (is_written old mid i w n).size in
      (omega arith, ap (λ m. (out-Node K V Z m).children) n ∙ field_made _ ∙ l.1)

  -- a node whose child at a place became another
  pub record IsChildLeft (old mid c : Node K V Z) (i : ℕ) : Type 0 where
    pub before : before_child mid i ≡ before_child old i
    pub child : child_at mid i ≡ c
    pub after : after_child mid i ≡ after_child old i
    pub own : own_pairs mid ≡ own_pairs old
    pub inner : IsInner mid
    pub levels : (h : ℕ) → IsUnbalanced (suc h) old → IsUnbalanced h c → IsUnbalanced (suc h) mid

  pub child_left : (old mid c : Node K V Z) (i : ℕ) → IsInner old → i ≤ length (own_pairs old) → IsReplaced old mid i c → IsChildLeft old mid c i
  child_left old mid c i inner le m =
      let lt : i < length (children_of old) = let k : length (children_of old) ≡ length (own_pairs old) + 1 = inner in omega arith in
      record {
        before = m.before;
        child = m.here lt;
        after = m.after;
        own = m.same;
        inner = m.inner inner;
        levels = λ h l b. (omega (arith, m.size, l.0), m.inner inner, replaced_all (IsUnbalanced h) m l.2 b);
      }

  -- a node with another value, and another child before it
  pub record IsTurned (old mid : Node K V Z) (i : ℕ) (w : V) (c : Node K V Z) : Type 0 where
    pub own : own_pairs mid ≡ set_value (own_pairs old) i w
    pub size : length (own_pairs mid) ≡ length (own_pairs old)
    pub children : children_of mid ≡ slice_set (children_of old) i c
    pub inner : IsInner mid

  pub turned : (old new mid : Node K V Z) (i : ℕ) (w : V) (c : Node K V Z) → IsInner old → i < length (own_pairs old) → IsWritten old new i w
      → IsReplaced new mid i c → IsTurned old mid i w c
  turned old new mid i w c inner lt n m =
      record {
        own = m.same ∙ n.own;
        size = ap length m.same ∙ n.size;
        children = m.child ∙ ap (λ cs. slice_set cs i c) n.children;
        inner = (child_left new mid c i (n.inner inner) (omega arith) m).inner;
      }

  pub child_unbalanced : (h : ℕ) (old mid d c : Node K V Z) (i : ℕ) → IsInner old → i ≤ length (own_pairs old) → d ≡ child_at old i → IsReplaced old mid i c
      → ((g : ℕ) → IsUnbalanced g d → IsUnbalanced g c) → IsUnbalanced h old → IsUnbalanced h mid
  child_unbalanced zero old mid d c i inner le is m lo l = absurd (leaf_or_inner old l.1 inner)
  child_unbalanced (suc h) old mid d c i inner le is m lo l = (child_left old mid c i inner le m).levels h l
      (lo h (subst (IsUnbalanced h) (sym is) (unbalanced_child h old i l le)))

  -- a node's pairs around a child
  last_pairs : (n : Node K V Z) (i : ℕ) → IsInner n → i ≡ length (own_pairs n) → pairs_of n ≡ before_child n i ++ pairs_of (child_at n i)
  last_pairs n i inner e =
      inner_gap n i inner (omega arith) ∙ ap (λ zs. before_child n i ++ (pairs_of (child_at n i) ++ zs)) (after_none n i (omega arith))
      ∙ ap (λ zs. before_child n i ++ zs) (append-nil (pairs_of (child_at n i)))

  -- a node whose last child became another
  pub record IsLastLent (old mid d c : Node K V Z) (i : ℕ) : Type 0 where
    pub inner : IsInner old
    pub last : i ≡ length (own_pairs old)
    pub is : d ≡ child_at old i
    pub set : IsReplaced old mid i c

  pub last_left : (old mid d c : Node K V Z) (i : ℕ) → IsLastLent old mid d c i → IsChildLeft old mid c i
  last_left old mid d c i l = child_left old mid c i l.inner (omega arith) l.set

  -- the node's last pair taken out of its last child
  pub last_below : (old mid d c : Node K V Z) (i : ℕ) (r : Option (K × V)) → IsLastLent old mid d c i → pairs_of d ≡ pairs_of c ++ option_to_list r
      → pairs_of old ≡ pairs_of mid ++ option_to_list r
  last_below old mid d c i r l p =
      let e = l.last in
      let m = last_left old mid d c i l in
      let o : length (own_pairs mid) ≡ length (own_pairs old) = ap length m.own in
      last_pairs old i l.inner e ∙ ap (λ n. before_child old i ++ pairs_of n) (sym l.is) ∙ ap (λ zs. before_child old i ++ zs) p
      ∙ sym (append_assoc (before_child old i) (pairs_of c) (option_to_list r)) ∙ ap (λ zs. (zs ++ pairs_of c) ++ option_to_list r) (sym m.before)
      ∙ ap (λ n. (before_child mid i ++ pairs_of n) ++ option_to_list r) (sym m.child)
      ∙ ap (λ zs. zs ++ option_to_list r) (sym (last_pairs mid i m.inner (omega arith)))

  pub none_below : (old mid d c : Node K V Z) (i : ℕ) → IsLastLent old mid d c i → i ≡ 0 → pairs_of c ≡ [] → pairs_of mid ≡ []
  none_below old mid d c i l z p =
      let m = last_left old mid d c i l in
      let o : length (own_pairs mid) ≡ length (own_pairs old) = ap length m.own in
      last_pairs mid i m.inner (omega arith) ∙ ap (λ n. before_child mid i ++ pairs_of n) m.child ∙ ap (λ zs. before_child mid i ++ zs) p
      ∙ append-nil (before_child mid i) ∙ ap (before_child mid) z

  pub empty_last : (old mid d c : Node K V Z) (i : ℕ) → IsLastLent old mid d c i → pairs_of c ≡ [] → pairs_of (child_at mid (length (own_pairs mid))) ≡ []
  empty_last old mid d c i l p =
      let m = last_left old mid d c i l in
      ap (λ j. pairs_of (child_at mid j)) (ap length m.own ∙ sym l.last) ∙ ap pairs_of m.child ∙ p

  pub last_unbalanced : (h : ℕ) (old mid d c : Node K V Z) (i : ℕ) → IsLastLent old mid d c i → ((g : ℕ) → IsUnbalanced g d → IsUnbalanced g c)
      → IsUnbalanced h old → IsUnbalanced h mid
  last_unbalanced h old mid d c i l lo b = child_unbalanced h old mid d c i l.inner (omega arith) l.is l.set lo b

  pub last_underfull : (h : ℕ) (old mid d c : Node K V Z) → IsLastLent old mid d c 0 → ((g : ℕ) → IsUnderfull g d → IsUnderfull g c) → IsUnderfull h old
      → IsUnderfull h mid
  last_underfull zero old mid d c l lo t = absurd (leaf_or_inner old t.1 l.inner)
  last_underfull (suc h) old mid d c l lo t =
      let m = last_left old mid d c 0 l in
      let o : length (own_pairs mid) ≡ length (own_pairs old) = ap length m.own in
      (omega arith, m.inner, inr (omega arith, subst (IsUnderfull h) (sym m.child) (lo h (subst (IsUnderfull h) (sym l.is) (only_underfull h old t)))))

  -- the own last pair, and an empty child after it
  pub record IsEndOff (old new : Node K V Z) (x : K × V) : Type 0 where
    pub pairs : pairs_of old ≡ pairs_of new ++ x ∷ []
    pub levels : (h : ℕ) → IsUnbalanced h old → IsUnbalanced h new

  pub end_off : (old new c : Node K V Z) (x : K × V) → IsInner old → pairs_of (child_at old (length (own_pairs old))) ≡ []
      → own_pairs old ≡ own_pairs new ++ x ∷ [] → children_of old ≡ children_of new ++ c ∷ [] → IsEndOff old new x
  end_off old new c x inner none e f =
      let k : length (children_of old) ≡ length (own_pairs old) + 1 = inner in
      let a = ap length e ∙ length-append (own_pairs new) (x ∷ []) in
      let b = ap length f ∙ length-append (children_of new) (c ∷ []) in
      let n : length (children_of new) ≡ length (own_pairs new) + 1 = omega arith in
      let is : child_at old (length (own_pairs old)) ≡ c = ap (λ cs. get_or cs (length (own_pairs old)) old) f
      ∙ at_place (children_of new) [] c old (length (own_pairs old)) (omega arith) in
      let z : pairs_of c ≡ [] = ap pairs_of (sym is) ∙ none in
      record {
        pairs = pairs_is old ∙ ap (λ cs. weave (map pairs_of cs) (own_pairs old)) f ∙ ap (λ ps. weave (map pairs_of (children_of new ++ c ∷ [])) ps) e
            ∙ ap (λ cs. weave cs (own_pairs new ++ x ∷ [])) (map-append pairs_of (children_of new) (c ∷ []))
            ∙ weave_parts (map pairs_of (children_of new)) (pairs_of c ∷ []) (own_pairs new) x [] (length-map (children_of new) pairs_of ∙ n) (omega arith)
            ∙ ap (λ zs. weave (map pairs_of (children_of new)) (own_pairs new) ++ x ∷ zs) (append-nil (pairs_of c) ∙ z)
            ∙ ap (λ zs. zs ++ x ∷ []) (sym (pairs_is new));
        levels = go;
      }
    where
      go : (h : ℕ) → IsUnbalanced h old → IsUnbalanced h new
      go zero l = absurd (leaf_or_inner old l.1 inner)
      go (suc h) l =
          let k : length (children_of old) ≡ length (own_pairs old) + 1 = inner in
          let a = ap length e ∙ length-append (own_pairs new) (x ∷ []) in
          let b = ap length f ∙ length-append (children_of new) (c ∷ []) in
          (omega arith, omega arith, all_front (IsUnbalanced h) (children_of new) (c ∷ []) (subst (AllByRecursion (IsUnbalanced h)) f l.2))

module _ {S K V : Type 0} (R : S → K × V → S → V → Bool → Type 0) where
  -- the pairs of a leaf before a place were asked, but for some first ones; so many last ones are not asked
  pub record IsLeafFiltered (first : List (K × V)) (last : ℕ) (s t : S) (old now : List (K × V)) (at left : ℕ) : Type 0 where
    pub seen : List (K × V)
    pub stay : List (K × V)
    pub rest : List (K × V)
    pub old_is : old ≡ first ++ (seen ++ rest)
    pub now_is : now ≡ (first ++ stay) ++ rest
    pub place : length (first ++ stay) ≡ at
    pub left_is : length rest ≡ last + left
    pub filters : RetainsInTurn R s seen t stay

  pub leaf_start : (s : S) (xs first rest : List (K × V)) (at last left : ℕ) → xs ≡ first ++ rest → length first ≡ at → length rest ≡ last + left
      → IsLeafFiltered first last s s xs xs at left
  leaf_start s xs first rest at last left is p e = record {
    seen = [];
    stay = [];
    rest = rest;
    old_is = is;
    now_is = is ∙ ap (λ zs. zs ++ rest) (sym (append-nil first));
    place = ap length (append-nil first) ∙ p;
    left_is = e;
    filters = retains_none R s;
  }

  module _ (first : List (K × V)) (last : ℕ) where
    pub leaf_room : (s t : S) (old now : List (K × V)) (at left : ℕ) → IsLeafFiltered first last s t old now at left → 0 < left → at < length now
    leaf_room s t old now at left l some =
        let e = ap length l.now_is ∙ length-append (first ++ l.stay) l.rest in
        omega arith

    pub leaf_kept : (s t u : S) (old now new : List (K × V)) (at left left' : ℕ) (e : K × V) (w : V) → IsLeafFiltered first last s t old now at left
        → left ≡ left' + 1 → R t e u w true → e ≡ get_or now at e → new ≡ set_value now at w → IsLeafFiltered first last s u old new (at + 1) left'
    leaf_kept s t u old now new at left left' e w l k r q v = go l.rest l.left_is l.old_is l.now_is
      where
        go : (rest : List (K × V)) → length rest ≡ last + left → old ≡ first ++ (l.seen ++ rest) → now ≡ (first ++ l.stay) ++ rest
            → IsLeafFiltered first last s u old new (at + 1) left'
        go [] z o n = absurd (omega arith)
        go (x ∷ rest) z o n =
            let is : e ≡ x = q ∙ ap (λ xs. get_or xs at e) n ∙ at_place (first ++ l.stay) rest x e at l.place in
            let more = append_assoc first l.stay ((e.0, w) ∷ []) in
            record {
              seen = l.seen ++ e ∷ [];
              stay = l.stay ++ (e.0, w) ∷ [];
              rest = rest;
              old_is = o ∙ ap (λ y. first ++ (l.seen ++ y ∷ rest)) (sym is) ∙ ap (λ ys. first ++ ys) (sym (append_assoc l.seen (e ∷ []) rest));
              now_is = v ∙ ap (λ xs. set_value xs at w) (n ∙ ap (λ y. (first ++ l.stay) ++ y ∷ rest) (sym is))
                  ∙ value_place (first ++ l.stay) rest e w at l.place ∙ sym (append_assoc (first ++ l.stay) ((e.0, w) ∷ []) rest)
                  ∙ ap (λ xs. xs ++ rest) more;
              place = ap length (sym more) ∙ length-append (first ++ l.stay) ((e.0, w) ∷ []) ∙ ap (λ k. k + 1) l.place;
              left_is = omega arith;
              filters = retains_join R l.seen (e ∷ []) l.stay ((e.0, w) ∷ []) s t u l.filters (retains_one R e t u w true r);
            }

    pub leaf_gone : (s t u : S) (old now new : List (K × V)) (at left left' : ℕ) (e : K × V) (w : V) → IsLeafFiltered first last s t old now at left
        → left ≡ left' + 1 → R t e u w false → e ≡ get_or now at e → new ≡ remove (set_value now at w) at → IsLeafFiltered first last s u old new at left'
    leaf_gone s t u old now new at left left' e w l k r q v = go l.rest l.left_is l.old_is l.now_is
      where
        go : (rest : List (K × V)) → length rest ≡ last + left → old ≡ first ++ (l.seen ++ rest) → now ≡ (first ++ l.stay) ++ rest
            → IsLeafFiltered first last s u old new at left'
        go [] z o n = absurd (omega arith)
        go (x ∷ rest) z o n =
            let is : e ≡ x = q ∙ ap (λ xs. get_or xs at e) n ∙ at_place (first ++ l.stay) rest x e at l.place in
            record {
              seen = l.seen ++ e ∷ [];
              stay = l.stay;
              rest = rest;
              old_is = o ∙ ap (λ y. first ++ (l.seen ++ y ∷ rest)) (sym is) ∙ ap (λ ys. first ++ ys) (sym (append_assoc l.seen (e ∷ []) rest));
              now_is = v ∙ ap (λ xs. remove (set_value xs at w) at) (n ∙ ap (λ y. (first ++ l.stay) ++ y ∷ rest) (sym is))
                  ∙ ap (λ xs. remove xs at) (value_place (first ++ l.stay) rest e w at l.place) ∙ remove_place (first ++ l.stay) rest (e.0, w) at l.place;
              place = l.place;
              left_is = omega arith;
              filters = subst (λ zs. RetainsInTurn R s (l.seen ++ e ∷ []) u zs) (append-nil l.stay)
                  (retains_join R l.seen (e ∷ []) l.stay [] s t u l.filters (retains_one R e t u w false r));
            }

    pub leaf_passed : (s t u : S) (old now new : List (K × V)) (at left left' j : ℕ) → IsLeafFiltered first last s t old now at left → left ≡ left' + 1
        → IsOwnPassed R t u at j now new → IsLeafFiltered first last s u old new j left'
    leaf_passed s t u old now new at left left' j l k (e, w, true, r, q, p) =
        subst (λ i. IsLeafFiltered first last s u old new i left') (sym p.0) (leaf_kept s t u old now new at left left' e w l k r q p.1)
    leaf_passed s t u old now new at left left' j l k (e, w, false, r, q, p) =
        subst (λ i. IsLeafFiltered first last s u old new i left') (sym p.0) (leaf_gone s t u old now new at left left' e w l k r q p.1)

  -- all of them were
  pub leaf_end : (s t : S) (old now : List (K × V)) (at : ℕ) → IsLeafFiltered [] 0 s t old now at 0 → RetainsInTurn R s old t now
  leaf_end s t old now at l =
      let z = nil_from_length l.rest l.left_is in
      let o : old ≡ l.seen = l.old_is ∙ ap (λ r. l.seen ++ r) z ∙ append-nil l.seen in
      let n : now ≡ l.stay = l.now_is ∙ ap (λ r. l.stay ++ r) z ∙ append-nil l.stay in
      subst (λ x. RetainsInTurn R s x t now) (sym o) (subst (λ x. RetainsInTurn R s l.seen t x) (sym n) l.filters)

  -- those of a part were
  pub part_end : (i j last : ℕ) (s t : S) (old now : List (K × V)) (at : ℕ) → i ≤ length old → last + j ≡ length old
      → IsLeafFiltered (take i old) last s t old now at 0 → IsLeafRangeFiltered R s t i j old now
  part_end i j last s t old now at le e l =
      let whole : old ≡ (take i old ++ l.seen) ++ l.rest = l.old_is ∙ sym (append_assoc (take i old) l.seen l.rest) in
      let sizes = ap length whole ∙ length-append (take i old ++ l.seen) l.rest in
      let rest : drop j old ≡ l.rest = ap (drop j) whole ∙ drop_place (take i old ++ l.seen) l.rest j (omega arith) in
      record {
        asked = l.seen;
        stay = l.stay;
        filtered = l.filters;
        before = l.old_is ∙ ap (λ r. take i old ++ (l.seen ++ r)) (sym rest);
        after = l.now_is ∙ append_assoc (take i old) l.stay l.rest ∙ ap (λ r. take i old ++ (l.stay ++ r)) (sym rest);
      }

module _ {S K V Z : Type 0} (R : S → K × V → S → V → Bool → Type 0) where
  -- the pair after a child was asked: what the node then is
  module _ (L : ℕ → Node K V Z → Type 0) (s t : S) (i : ℕ) (old new : Node K V Z) (e : K × V) (inner : IsInner old) (lt : i < length (own_pairs old))
      (q : e ≡ get_or (own_pairs old) i e) where
    abbrev A : List (Node K V Z)
    A = take i (children_of old)

    abbrev D : List (Node K V Z)
    D = drop (suc (suc i)) (children_of old)

    abbrev P : List (K × V)
    P = take i (own_pairs old)

    abbrev Q : List (K × V)
    Q = drop (suc i) (own_pairs old)

    abbrev c : Node K V Z
    c = child_at old i

    abbrev d : Node K V Z
    d = child_at old (i + 1)

    there : IsOpenAt old i A c (d ∷ D) P (e ∷ Q)
    there = opened_two old i e inner lt q

    next : IsOpenAt old (i + 1) (A ++ c ∷ []) d D (P ++ e ∷ []) Q
    next = open_next old i A c (d ∷ D) P (e ∷ Q) there e Q d D refl refl

    even : length D ≡ length Q
    even =
        let k : length (children_of old) ≡ length (own_pairs old) + 1 = inner in
        let a = ap length there.children ∙ length-append A (c ∷ d ∷ D) in
        let b = ap length there.own ∙ length-append P (e ∷ Q) in
        omega (arith, there.before, there.own_before)

    passed : (j : ℕ) (kept : List (Node K V Z)) (P' stay : List (K × V)) → IsOpenAt new j (A ++ kept) d D P' Q → RetainsInTurn R s (e ∷ []) t stay
        → before_list (map pairs_of (A ++ kept)) P' ≡ before_list (map pairs_of A) P ++ (pairs_of c ++ stay)
        → j ≤ i + 1 → ((h : ℕ) → L h c → AllByRecursion (L h) kept) → IsPassed L R s t i j old new
    passed j kept P' stay o r b le lo =
        let a = ap length there.own ∙ length-append P (e ∷ Q) in
        let a' = ap length o.own ∙ length-append P' Q in
        let y' = o.own_before in
        let k = length-append A kept in
        let rest : drop (suc i) (children_of old) ≡ d ∷ D = ap (drop (suc i)) (there.children ∙ sym (append_assoc A (c ∷ []) (d ∷ D)))
        ∙ drop_place (A ++ c ∷ []) (d ∷ D) (suc i) (length-append A (c ∷ []) ∙ omega (arith, there.before)) in
        record {
          asked = e;
          stay = stay;
          filtered = r;
          before = open_before new j (A ++ kept) d D P' Q o ∙ b
              ∙ ap (λ zs. zs ++ (pairs_of c ++ stay)) (sym (open_before old i A c (d ∷ D) P (e ∷ Q) there));
          child = open_child new j (A ++ kept) d D P' Q o;
          here = open_after old i A c (d ∷ D) P (e ∷ Q) there ∙ ap (λ zs. e ∷ (pairs_of d ++ zs))
              (sym (open_after old (i + 1) (A ++ c ∷ []) d D (P ++ e ∷ []) Q next));
          after = open_after new j (A ++ kept) d D P' Q o ∙ sym (open_after old (i + 1) (A ++ c ∷ []) d D (P ++ e ∷ []) Q next);
          left = omega (arith, there.before, there.own_before);
          inner = open_inner new j (A ++ kept) d D P' Q o even;
          few = le;
          kept = kept;
          place = omega (arith, there.before, o.before);
          children = o.children ∙ append_assoc A kept (d ∷ D) ∙ ap (λ zs. A ++ (kept ++ zs)) (sym rest);
          levels = lo;
          own_kept = P';
          own_place = y';
          own = o.own;
        }

    same_length : length A ≡ length P
    same_length = there.before ∙ sym there.own_before

    -- it stays
    pub passed_kept : (w : V) → R s e t w true → new ≡ with_value old i w → IsPassed L R s t i (i + 1) old new
    passed_kept w r n =
        let f : own_pairs new ≡ P ++ (e.0, w) ∷ Q = ap own_pairs n ∙ value_own old i w ∙ ap (λ xs. set_value xs i w) there.own
        ∙ value_place P Q e w i there.own_before in
        let g : children_of new ≡ A ++ c ∷ d ∷ D = ap children_of n ∙ value_children old i w ∙ there.children in
        let o : IsOpenAt new i A c (d ∷ D) P ((e.0, w) ∷ Q) = record { children = g; own = f; before = there.before; own_before = there.own_before } in
        passed (i + 1) (c ∷ []) (P ++ (e.0, w) ∷ []) ((e.0, w) ∷ []) (open_next new i A c (d ∷ D) P ((e.0, w) ∷ Q) o (e.0, w) Q d D refl refl)
        (retains_one R e s t w true r) (before_next A c P (e.0, w) same_length) (omega arith)
        (λ h x. (x, tt))

    -- another pair takes its place
    pub passed_moved : (w : V) (mid c' : Node K V Z) (p : K × V) → R s e t w false → IsTurned old mid i w c'
        → own_pairs new ≡ slice_set (own_pairs mid) i p → children_of new ≡ children_of mid → pairs_of c ≡ pairs_of c' ++ p ∷ []
        → ((h : ℕ) → L h c → L h c') → IsPassed L R s t i (i + 1) old new
    passed_moved w mid c' p r m so sc pe lo =
        let v = m.own ∙ ap (λ xs. set_value xs i w) there.own ∙ value_place P Q e w i there.own_before in
        let f : own_pairs new ≡ P ++ p ∷ Q = so ∙ ap (λ xs. slice_set xs i p) v ∙ set_place P Q (e.0, w) p i there.own_before in
        let g : children_of new ≡ A ++ c' ∷ d ∷ D = sc ∙ m.children ∙ ap (λ xs. slice_set xs i c') there.children ∙ set_place A (d ∷ D) c c' i there.before in
        let o : IsOpenAt new i A c' (d ∷ D) P (p ∷ Q) = record { children = g; own = f; before = there.before; own_before = there.own_before } in
        passed (i + 1) (c' ∷ []) (P ++ p ∷ []) [] (open_next new i A c' (d ∷ D) P (p ∷ Q) o p Q d D refl refl) (retains_one R e s t w false r)
        (before_next A c' P p same_length ∙ ap (λ zs. before_list (map pairs_of A) P ++ zs) (sym pe ∙ sym (append-nil (pairs_of c)))) (omega arith)
        (λ h x. (lo h x, tt))

    -- a child without pairs goes with it
    pub passed_gone : (w : V) (mid c' : Node K V Z) → R s e t w false → IsTurned old mid i w c'
        → own_pairs new ≡ remove (own_pairs mid) i → children_of new ≡ remove (children_of mid) i → pairs_of c ≡ [] → IsPassed L R s t i i old new
    passed_gone w mid c' r m so sc pe =
        let v = m.own ∙ ap (λ xs. set_value xs i w) there.own ∙ value_place P Q e w i there.own_before in
        let f : own_pairs new ≡ P ++ Q = so ∙ ap (λ xs. remove xs i) v ∙ remove_place P Q (e.0, w) i there.own_before in
        let l = m.children ∙ ap (λ xs. slice_set xs i c') there.children ∙ set_place A (d ∷ D) c c' i there.before in
        let g : children_of new ≡ A ++ d ∷ D = sc ∙ ap (λ xs. remove xs i) l ∙ remove_place A (d ∷ D) c' i there.before in
        let o : IsOpenAt new i A d D P Q = record { children = g; own = f; before = there.before; own_before = there.own_before } in
        let none = append-nil A in
        passed i [] P [] (subst (λ B. IsOpenAt new i B d D P Q) (sym none) o) (retains_one R e s t w false r)
        (ap (λ B. before_list (map pairs_of B) P) none ∙ sym (append-nil (before_list (map pairs_of A) P))
        ∙ ap (λ zs. before_list (map pairs_of A) P ++ zs) (sym (ap (λ zs. zs ++ []) pe))) (omega arith) (λ h x. tt)

  -- so the node is as unbalanced as it was
  passed_unbalanced : (s t : S) (i j : ℕ) (old new : Node K V Z) → IsInner old → i < length (own_pairs old) → IsPassed IsUnbalanced R s t i j old new → (h : ℕ)
      → IsUnbalanced h old → IsUnbalanced h new
  passed_unbalanced s t i j old new inner lt p zero l = absurd (leaf_or_inner old l.1 inner)
  passed_unbalanced s t i j old new inner lt p (suc h) l =
      let cs = children_of old in
      let front = all_take (IsUnbalanced h) i cs l.2 in
      let back = all_drop (IsUnbalanced h) (suc i) cs l.2 in (
        omega arith,
        p.inner,
        subst (AllByRecursion (IsUnbalanced h)) (sym p.children) (all_both (IsUnbalanced h) (take i cs) _ front (all_both (IsUnbalanced h) p.kept _
            (p.levels h (unbalanced_child h old i l (omega arith))) back)),
      )

  -- the pairs before a child were asked
  pub record IsFiltering (s t : S) (old now : Node K V Z) (at left : ℕ) : Type 0 where
    pub seen : List (K × V)
    pub old_is : pairs_of old ≡ seen ++ (pairs_of (child_at now at) ++ after_child now at)
    pub filters : RetainsInTurn R s seen t (before_child now at)
    pub left_is : length (own_pairs now) ≡ at + left
    pub inner : IsInner now
    pub levels : (h : ℕ) → IsUnbalanced h old → IsUnbalanced h now

  pub filtering_start : (s : S) (n : Node K V Z) (left : ℕ) → IsInner n → length (own_pairs n) ≡ left → IsFiltering s s n n 0 left
  filtering_start s n left inner e = record {
    seen = [];
    old_is = inner_gap n 0 inner (omega arith);
    filters = retains_none R s;
    left_is = omega arith;
    inner = inner;
    levels = λ h l. l;
  }

  -- a child, and the pair after it
  pub filtering_more : (s t u v : S) (old now mid new dold dnew : Node K V Z) (at left left' j : ℕ) → IsFiltering s t old now at left → left ≡ left' + 1
      → dold ≡ child_at now at → IsReplaced now mid at dnew → RetainsInTurn R t (pairs_of dold) u (pairs_of dnew)
      → ((h : ℕ) → IsUnbalanced h dold → IsUnbalanced h dnew)
      → IsPassed IsUnbalanced R u v at j mid new → IsFiltering s v old new j left'
  filtering_more s t u v old now mid new dold dnew at left left' j g k is m r lo p =
      let c = child_left now mid dnew at g.inner (omega arith) m in
      let o : length (own_pairs mid) ≡ length (own_pairs now) = ap length m.same in
      let here : after_child now at ≡ p.asked ∷ (pairs_of (child_at new j) ++ after_child new j) = sym c.after ∙ p.here
      ∙ ap (λ n. p.asked ∷ (pairs_of n ++ after_child mid (at + 1))) (sym p.child) ∙ ap (λ zs. p.asked ∷ (pairs_of (child_at new j) ++ zs)) (sym p.after) in
      let was : pairs_of old ≡ g.seen ++ (pairs_of dold ++ p.asked ∷ (pairs_of (child_at new j) ++ after_child new j)) =
      g.old_is ∙ ap (λ n. g.seen ++ (pairs_of n ++ after_child now at)) (sym is) ∙ ap (λ zs. g.seen ++ (pairs_of dold ++ zs)) here in
      let front : before_child new j ≡ before_child now at ++ (pairs_of dnew ++ p.stay) = p.before
      ∙ ap (λ zs. zs ++ (pairs_of (child_at mid at) ++ p.stay)) c.before ∙ ap (λ n. before_child now at ++ (pairs_of n ++ p.stay)) c.child in
      record {
        seen = g.seen ++ (pairs_of dold ++ p.asked ∷ []);
        old_is = was ∙ ap (λ zs. g.seen ++ zs) (sym (append_assoc (pairs_of dold) (p.asked ∷ []) (pairs_of (child_at new j) ++ after_child new j)))
            ∙ sym (append_assoc g.seen (pairs_of dold ++ p.asked ∷ []) (pairs_of (child_at new j) ++ after_child new j));
        filters = subst (λ zs. RetainsInTurn R s (g.seen ++ (pairs_of dold ++ p.asked ∷ [])) v zs) (sym front)
            (retains_join R g.seen (pairs_of dold ++ p.asked ∷ []) (before_child now at) (pairs_of dnew ++ p.stay) s t v g.filters
            (retains_join R (pairs_of dold) (p.asked ∷ []) (pairs_of dnew) p.stay t u v r p.filtered));
        left_is = omega arith;
        inner = p.inner;
        levels = go;
      }
    where
      go : (h : ℕ) → IsUnbalanced h old → IsUnbalanced h new
      go h l =
          let c = child_left now mid dnew at g.inner (omega arith) m in
          let o : length (own_pairs mid) ≡ length (own_pairs now) = ap length m.same in
          passed_unbalanced u v at j mid new c.inner (omega arith) p h (child_unbalanced h now mid dold dnew at g.inner (omega arith) is m lo (g.levels h l))

  pub record IsAllFiltered (s t : S) (old new : Node K V Z) : Type 0 where
    pub filters : RetainsInTurn R s (pairs_of old) t (pairs_of new)
    pub levels : (h : ℕ) → IsUnbalanced h old → IsUnbalanced h new

  -- the last child
  pub filtering_end : (s t u : S) (old now new dold dnew : Node K V Z) (at : ℕ) → IsFiltering s t old now at 0 → dold ≡ child_at now at → IsReplaced now new
      at dnew
      → RetainsInTurn R t (pairs_of dold) u (pairs_of dnew) → ((h : ℕ) → IsUnbalanced h dold → IsUnbalanced h dnew) → IsAllFiltered s u old new
  filtering_end s t u old now new dold dnew at g is m r lo =
      let c = child_left now new dnew at g.inner (omega arith) m in
      let o : length (own_pairs new) ≡ length (own_pairs now) = ap length m.same in
      let was : pairs_of old ≡ g.seen ++ pairs_of dold = g.old_is ∙ ap (λ n. g.seen ++ (pairs_of n ++ after_child now at)) (sym is)
      ∙ ap (λ zs. g.seen ++ (pairs_of dold ++ zs)) (after_none now at (omega arith)) ∙ ap (λ zs. g.seen ++ zs) (append-nil (pairs_of dold)) in
      let is' : pairs_of new ≡ before_child now at ++ pairs_of dnew = last_pairs new at c.inner (omega arith)
      ∙ ap (λ zs. zs ++ pairs_of (child_at new at)) c.before ∙ ap (λ n. before_child now at ++ pairs_of n) c.child in
      record {
        filters = subst (λ x. RetainsInTurn R s x u (pairs_of new)) (sym was)
            (subst (λ x. RetainsInTurn R s (g.seen ++ pairs_of dold) u x) (sym is')
            (retains_join R g.seen (pairs_of dold) (before_child now at) (pairs_of dnew) s t u g.filters r));
        levels = λ h l. child_unbalanced h now new dold dnew at g.inner (omega arith) is m lo (g.levels h l);
      }
