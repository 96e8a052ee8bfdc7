-- Where a new pair stands once it is put in.
use Rattle.std.proofs.Common.{◌^◌, length-append, ◌≡◌, ℕ, suc, zero, ◌+◌, ◌-◌, ◌<◌, ◌≤◌, Bool, true, false, nat_lt, List, [], ◌∷◌, ◌++◌, length, get_or, map}
use Rattle.std.proofs.Common.{take, drop, refl, sym, ap, ◌∙◌, subst, arith, append_assoc, append-nil, Some, None, IfSome, MatchOption}
use Rattle.std.specs.Prelude.{slice_range, if◌then◌else◌}
use Rattle.std.specs.List.{AllByRecursion, insert}
use Rattle.std.proofs.lemmas.List.Edits.{length-insert}
use Rattle.std.proofs.lemmas.Bool.{ltb-true, ltb-false, lt-ltb, le-ltb}
use Rattle.std.proofs.lemmas.Bool.Decides.{nat_tests}
use Rattle.std.proofs.lemmas.List.{length-map, map-append, take-append-le, append_cancel_left, get_or-append_right, get_or_append_left}
use Rattle.std.proofs.Math.Seq.{take-append-add, take-append_seam, get_or-append_seam}
use Rattle.fc_base.specs.Sizes.{capacity, most_levels}
use Rattle.fc_tree_node.specs.Weave.{weave, before_list}
use Rattle.fc_tree_node.specs.declared.node.Node.{Node}
use Rattle.fc_tree_node.specs.Node.{own_pairs, children_of, child_at, pairs_of, IsLeaf, IsInner, IsLevelled, IsSoundRoot}
use Rattle.fc_tree_node.specs.Path.{IsPath, before_gap, after_gap}
use Rattle.fc_tree_node.specs.Place.{before_child, before_own, IsPlace, before_pair, after_pair}
use Rattle.fc_tree_node.specs.Split.{left_length}
use Rattle.fc_tree_insertion.specs.Insertion.{Split, own_pairs_after, children_after}
use Rattle.fc_tree_insertion.specs.NewPair.{step_from, is_right, steps_to_new_pair, IsPutAt, StandsAt, kept_whole, IsLedToNewPair, path_after, steps_after}
use Rattle.fc_tree_node.proofs.Lists.{length_take, take_drop, set_is, set_put}
use Rattle.fc_tree_node.proofs.Pairs.{IsBelow, child_below, pairs_is, leaf_children, leaf_pairs}
use Rattle.fc_tree_node.proofs.Gaps.{place_pairs}
use Rattle.fc_tree_node.proofs.Lent.{IsReplaced}
use Rattle.fc_tree_node.proofs.PathSteps.{IsStep}
use Rattle.fc_tree_insertion.proofs.Cascades.{rest_of, IsCascadeStep, leaf_full, leaf_room, cascade_part, first_full, needed_whole, needed_part}
use Rattle.fc_tree_insertion.proofs.InsertedLevels.{levelled_root}
use Rattle.fc_tree_insertion.proofs.InsertedPairs.{put_root, leaf_before}
use Rattle.fc_tree_node.proofs.DepthFacts.{deep_root, deep_full, few_levels}
use Rattle.fc_tree_insertion.specs.Cascade.{all_full, cascade, nodes_needed}

module _ {X : Type 0} where
  -- lists and items in turn, cut after an item
  before_join : (cs ds : List (List X)) (ps qs : List X) → length cs ≡ length ps → before_list (cs ++ ds) (ps ++ qs) ≡ before_list cs ps ++ before_list ds qs
  before_join [] ds [] qs e = refl
  before_join [] ds (p ∷ ps) qs e = absurd (omega arith)
  before_join (c ∷ cs) ds [] qs e = absurd (omega arith)
  before_join (c ∷ cs) ds (p ∷ ps) qs e = ap (λ zs. c ++ p ∷ zs) (before_join cs ds ps qs (omega arith))
      ∙ sym (append_assoc c (p ∷ before_list cs ps) (before_list ds qs))

  before_over : (cs ds : List (List X)) (ps : List X) (m : X) (qs : List X) → length cs ≡ length ps + 1
      → before_list (cs ++ ds) (ps ++ m ∷ qs) ≡ weave cs ps ++ m ∷ before_list ds qs
  before_over [] ds ps m qs e = absurd (omega arith)
  before_over (c ∷ []) ds [] m qs e = ap (λ zs. zs ++ m ∷ before_list ds qs) (sym (append-nil c))
  before_over (c ∷ []) ds (p ∷ ps) m qs e = absurd (omega arith)
  before_over (c ∷ d ∷ cs) ds [] m qs e = absurd (omega arith)
  before_over (c ∷ d ∷ cs) ds (p ∷ ps) m qs e = ap (λ zs. c ++ p ∷ zs) (before_over (d ∷ cs) ds ps m qs (omega arith))
      ∙ sym (append_assoc c (p ∷ weave (d ∷ cs) ps) (m ∷ before_list ds qs))

  -- a list, cut at an item: what is before it tells which it is and what is after it
  same_cut : (xs ys zs ws : List X) (x y : X) → xs ++ x ∷ ys ≡ zs ++ y ∷ ws → xs ≡ zs → (x ≡ y) × (ys ≡ ws)
  same_cut xs ys zs ws x y e f =
      let g : xs ++ x ∷ ys ≡ xs ++ y ∷ ws = e ∙ ap (λ l. l ++ y ∷ ws) (sym f) in
      let h : x ∷ ys ≡ y ∷ ws = append_cancel_left xs (x ∷ ys) (y ∷ ws) g in
      (cc, cc)

module _ {X : Type 0} where
  take_put : (xs : List X) (i : ℕ) (x : X) → i ≤ length xs → take i (insert xs i x) ≡ take i xs
  take_put xs i x h = ap (λ j. take j (insert xs i x)) (sym (length_take i xs h)) ∙ take-append_seam (take i xs) (x ∷ drop i xs)

-- the new pair is never the one that a leaf hands out
beside : (i : ℕ) → i ≡ left_length i → ⊥
beside i e = grind (arith, nat_tests)

-- the pairs before a child, of those in the two lists
abbrev pub lead : {K V Z : Type 0} → List (Node K V Z) → List (K × V) → ℕ → List (K × V)
lead cs ps t = before_list (map pairs_of (take t cs)) (take t ps)

-- the step t of a node with these children and pairs leads to the steps' place, with those pairs before it
pub record HasStep {K V Z : Type 0} (path : List ℕ) (cs : List (Node K V Z)) (ps : List (K × V)) (t : ℕ) (front : List (K × V)) : Type 0 where
  pub child : Node K V Z
  pub is : (d : Node K V Z) → get_or cs t d ≡ child
  pub there : t < length cs
  pub place : IsPlace path child
  pub before_is : lead cs ps t ++ before_pair path child ≡ front

module _ {K V Z : Type 0} where
  -- at the child itself
  step_here : (q : List ℕ) (A D : List (Node K V Z)) (P Q : List (K × V)) (c : Node K V Z) (i : ℕ) (f : List (K × V)) → length A ≡ i → length P ≡ i
      → IsPlace q c
      → before_pair q c ≡ f → HasStep q (A ++ c ∷ D) (P ++ Q) i (before_list (map pairs_of A) P ++ f)
  step_here q A D P Q c i f a p w e = record {
    child = c;
    is = λ d. ap (λ j. get_or (A ++ c ∷ D) j d) (sym a) ∙ get_or-append_seam A c D d;
    there = (let l = length-append A (c ∷ D) in omega arith);
    place = w;
    before_is = ap (λ j. before_list (map pairs_of (take j (A ++ c ∷ D))) (take i (P ++ Q)) ++ before_pair q c) (sym a)
        ∙ ap (λ j. before_list (map pairs_of (take (length A) (A ++ c ∷ D))) (take j (P ++ Q)) ++ before_pair q c) (sym p)
        ∙ ap (λ xs. before_list (map pairs_of xs) (take (length P) (P ++ Q)) ++ before_pair q c) (take-append_seam A (c ∷ D))
        ∙ ap (λ ys. before_list (map pairs_of A) ys ++ before_pair q c) (take-append_seam P Q) ∙ ap (λ zs. before_list (map pairs_of A) P ++ zs) e;
  }

  -- at the node on the child's right
  step_next : (q : List ℕ) (A D : List (Node K V Z)) (P Q : List (K × V)) (c r : Node K V Z) (up : K × V) (i : ℕ) (f : List (K × V)) → length A ≡ i
      → length P ≡ i
      → IsPlace q r → pairs_of c ++ up ∷ before_pair q r ≡ f → HasStep q (A ++ c ∷ r ∷ D) (P ++ up ∷ Q) (i + 1) (before_list (map pairs_of A) P ++ f)
  step_next q A D P Q c r up i f a p w e =
      let s = step_here q (A ++ c ∷ []) D (P ++ up ∷ []) Q r (i + 1) (before_pair q r) (length-append A (c ∷ []) ∙ ap (λ j. j + 1) a)
      (length-append P (up ∷ []) ∙ ap (λ j. j + 1) p) w refl in
      let same : length (map pairs_of A) ≡ length P = length-map A pairs_of ∙ a ∙ sym p in
      let front : before_list (map pairs_of (A ++ c ∷ [])) (P ++ up ∷ []) ≡ before_list (map pairs_of A) P ++ (pairs_of c ++ up ∷ []) =
      ap (λ xs. before_list xs (P ++ up ∷ [])) (map-append pairs_of A (c ∷ [])) ∙ before_join (map pairs_of A) (pairs_of c ∷ []) P (up ∷ []) same in
      let all : before_list (map pairs_of (A ++ c ∷ [])) (P ++ up ∷ []) ++ before_pair q r ≡ before_list (map pairs_of A) P ++ f =
      ap (λ zs. zs ++ before_pair q r) front ∙ append_assoc (before_list (map pairs_of A) P) (pairs_of c ++ up ∷ []) (before_pair q r)
      ∙ ap (λ zs. before_list (map pairs_of A) P ++ zs) (append_assoc (pairs_of c) (up ∷ []) (before_pair q r) ∙ e) in
      subst (λ cs. HasStep q cs (P ++ up ∷ Q) (i + 1) (before_list (map pairs_of A) P ++ f)) (append_assoc A (c ∷ []) (r ∷ D))
      (subst (λ ps. HasStep q ((A ++ c ∷ []) ++ r ∷ D) ps (i + 1) (before_list (map pairs_of A) P ++ f)) (append_assoc P (up ∷ []) Q)
      (subst (HasStep q ((A ++ c ∷ []) ++ r ∷ D) ((P ++ up ∷ []) ++ Q) (i + 1)) all s))

  -- a node's own step
  stepped : (q : List ℕ) (n c : Node K V Z) (t : ℕ) (f : List (K × V)) → t < length (children_of n) → child_at n t ≡ c → IsPlace q c
      → before_child n t ++ before_pair q c ≡ f → IsPlace (t ∷ q) n × (before_pair (t ∷ q) n ≡ f)
  stepped [] n c t f h e w k = absurd w
  stepped (j ∷ q) n c t f h e w k = ((h, subst (IsPlace (j ∷ q)) (sym e) w), ap (λ x. before_child n t ++ before_pair (j ∷ q) x) e ∙ k)

  step_in : (q : List ℕ) (n : Node K V Z) (t : ℕ) (f : List (K × V)) → HasStep q (children_of n) (own_pairs n) t f
      → IsPlace (t ∷ q) n × (before_pair (t ∷ q) n ≡ f)
  step_in q n t f s = stepped q n s.child t f s.there (s.is n) s.place s.before_is

  -- the step in one of the two halves
  step_half : (q : List ℕ) (n : Node K V Z) (up : K × V) (b : Node K V Z) (k t : ℕ) (f : List (K × V)) → IsInner n → length (own_pairs n) ≡ k
      → HasStep q (children_of n ++ children_of b) (own_pairs n ++ up ∷ own_pairs b) t f
      → (test : Bool) → nat_lt k t ≡ test → StandsAt test ((if test then t - (k + 1) else t) ∷ q) n (Some (up, b)) f
  step_half q n up b k t f inner e s false is =
      let le : t ≤ k = ltb-false k t is in
      let m : length (children_of n) ≡ length (own_pairs n) + 1 = inner in
      let lt : t < length (children_of n) = omega arith in
      let before_child_is : before_child n t ≡ lead (children_of n ++ children_of b) (own_pairs n ++ up ∷ own_pairs b) t =
      ap (λ xs. before_list (map pairs_of xs) (take t (own_pairs n))) (sym (take-append-le t (children_of n) (children_of b) (omega arith)))
      ∙ ap (λ ys. before_list (map pairs_of (take t (children_of n ++ children_of b))) ys)
      (sym (take-append-le t (own_pairs n) (up ∷ own_pairs b) (omega arith))) in
      stepped q n s.child t f lt (sym (get_or_append_left (children_of n) (children_of b) n t lt) ∙ s.is n) s.place
      (ap (λ zs. zs ++ before_pair q s.child) before_child_is ∙ s.before_is)
  step_half q n up r k t f inner e s true is =
      let gt : k < t = ltb-true k t is in
      let j : ℕ = t - (k + 1) in
      let m : length (children_of n) ≡ length (own_pairs n) + 1 = inner in
      let l = length-append (children_of n) (children_of r) in
      let lt : t - (k + 1) < length (children_of r) = omega arith in
      let at_children : t ≡ length (children_of n) + (t - (k + 1)) = omega arith in
      let at_pairs : t ≡ length (own_pairs n) + suc (t - (k + 1)) = omega arith in
      let same : length (map pairs_of (children_of n)) ≡ length (own_pairs n) + 1 = length-map (children_of n) pairs_of ∙ m in
      let c = stepped q r s.child (t - (k + 1)) _ lt (sym (get_or-append_right (children_of n) (children_of r) (k + 1) t r (omega arith) (omega arith))
      ∙ s.is r) s.place refl in
      let before_child_is : lead (children_of n ++ children_of r) (own_pairs n ++ up ∷ own_pairs r) t ≡ pairs_of n ++ up ∷ before_child r (t - (k + 1)) =
      ap (λ x. before_list (map pairs_of (take x (children_of n ++ children_of r))) (take t (own_pairs n ++ up ∷ own_pairs r))) at_children
      ∙ ap (λ xs. before_list (map pairs_of xs) (take t (own_pairs n ++ up ∷ own_pairs r))) (take-append-add (children_of n) (children_of r) (t - (k + 1)))
      ∙ ap (λ x. before_list (map pairs_of (children_of n ++ take (t - (k + 1)) (children_of r))) (take x (own_pairs n ++ up ∷ own_pairs r))) at_pairs
      ∙ ap (λ ys. before_list (map pairs_of (children_of n ++ take (t - (k + 1)) (children_of r))) ys)
      (take-append-add (own_pairs n) (up ∷ own_pairs r) (suc (t - (k + 1))))
      ∙ ap (λ xs. before_list xs (own_pairs n ++ up ∷ take (t - (k + 1)) (own_pairs r)))
      (map-append pairs_of (children_of n) (take (t - (k + 1)) (children_of r)))
      ∙ before_over (map pairs_of (children_of n)) (map pairs_of (take (t - (k + 1)) (children_of r))) (own_pairs n) up (take (t - (k + 1)) (own_pairs r)) same
      ∙ ap (λ zs. zs ++ up ∷ before_child r (t - (k + 1))) (sym (pairs_is n)) in (
        c.0,
        ap (λ zs. pairs_of n ++ up ∷ zs) c.1 ∙ sym (append_assoc (pairs_of n) (up ∷ before_child r (t - (k + 1))) (before_pair q s.child))
            ∙ ap (λ zs. zs ++ before_pair q s.child) (sym before_child_is) ∙ s.before_is,
      )

  -- the new pair's place, by another word for its path and its number of nodes that stay whole
  by_steps : (p r : List ℕ) (old new : Node K V Z) (s : Split K V Z) (w : ℕ) → p ≡ r → kept_whole p old ≡ w
      → StandsAt (is_right w r) (steps_to_new_pair w r) new s (before_gap r old) → IsLedToNewPair p old new s
  by_steps p r old new s w e k h = rw k (subst (λ q. StandsAt (is_right w q) (steps_to_new_pair w q) new s (before_gap q old)) (sym e) h)

  module _ (old : Node K V Z) (i : ℕ) (le : i ≤ length (own_pairs old)) (inner : IsInner old) where
    taken : (length (take i (children_of old)) ≡ i) × (length (take i (own_pairs old)) ≡ i) × (i < length (children_of old))
    taken =
        let n : length (children_of old) ≡ length (own_pairs old) + 1 = inner in
        (length_take i (children_of old) (omega arith), length_take i (own_pairs old) le, omega arith)

    -- where the child was not split
    stands_below : (mid c : Node K V Z) (b : Bool) (q : List ℕ) (f : List (K × V)) → IsReplaced old mid i c → StandsAt b q c None f
        → StandsAt false (step_from i b ∷ q) mid None (before_child old i ++ f)
    stands_below mid c true q f m h = absurd h
    stands_below mid c false q f m h =
        let t = taken in
        let here = step_here q (take i (children_of old)) (drop (suc i) (children_of old)) (take i (own_pairs old)) (drop i (own_pairs old)) c i f t.0 t.1 h.0
        h.1 in
        step_in q mid i (before_child old i ++ f) (subst (λ cs. HasStep q cs (own_pairs mid) i (before_child old i ++ f))
        (sym (m.child ∙ set_is (children_of old) i c t.2))
        (subst (λ ps. HasStep q (take i (children_of old) ++ c ∷ drop (suc i) (children_of old)) ps i (before_child old i ++ f))
        (take_drop i (own_pairs old) ∙ sym m.same) here))

    -- where the child was split
    stepped_above : (mid c : Node K V Z) (b : Bool) (q : List ℕ) (f : List (K × V)) (up : K × V) (r : Node K V Z) (cs : List (Node K V Z)) (ps : List (K × V))
        → IsReplaced old mid i c → ps ≡ insert (own_pairs mid) i up → cs ≡ insert (children_of mid) (i + 1) r
        → StandsAt b q c (Some (up, r)) f → HasStep q cs ps (step_from i b) (before_child old i ++ f)
    stepped_above mid c b q f up r cs ps m e k h =
        let t = taken in
        let ps_is : ps ≡ take i (own_pairs old) ++ up ∷ drop i (own_pairs old) = e ∙ ap (λ xs. insert xs i up) m.same in
        let cs_is : cs ≡ take i (children_of old) ++ c ∷ r ∷ drop (suc i) (children_of old) = k ∙ ap (λ xs. insert xs (i + 1) r) m.child
        ∙ set_put (children_of old) i c r t.2 in
        subst (λ xs. HasStep q xs ps (step_from i b) (before_child old i ++ f)) (sym cs_is)
        (subst (λ xs. HasStep q (take i (children_of old) ++ c ∷ r ∷ drop (suc i) (children_of old)) xs (step_from i b) (before_child old i ++ f))
        (sym ps_is) (both b h))
      where
        both : (b : Bool) → StandsAt b q c (Some (up, r)) f → HasStep q (take i (children_of old) ++ c ∷ r ∷ drop (suc i) (children_of old))
            (take i (own_pairs old) ++ up ∷ drop i (own_pairs old)) (step_from i b) (before_child old i ++ f)
        both false h = let t = taken in step_here q (take i (children_of old)) (r ∷ drop (suc i) (children_of old)) (take i (own_pairs old))
            (up ∷ drop i (own_pairs old)) c i f t.0 t.1 h.0 h.1
        both true h = let t = taken in step_next q (take i (children_of old)) (drop (suc i) (children_of old)) (take i (own_pairs old))
            (drop i (own_pairs old)) c r up i f t.0 t.1 h.0 h.1

  -- below an inner node, where the child was not split
  pub led_below : {p : List ℕ} {old mid c child : Node K V Z} → IsCascadeStep p old child → IsReplaced old mid (get_or p 0 0) c
      → cascade (rest_of p) child < length (rest_of p) → IsLedToNewPair (rest_of p) child c None → IsLedToNewPair p old mid None
  led_below {p} {old} {mid} {c} {child} k m lt h =
      let s = k.step in
      let rest : List ℕ = rest_of p in
      let i : ℕ = get_or p 0 0 in
      let part = k.part lt in
      let w : kept_whole p old ≡ suc (kept_whole rest child) = omega arith in
      let b = stands_below old i s.le s.inner mid c _ _ (before_gap rest child) m h in
      by_steps p (i ∷ rest) old mid None (suc (kept_whole rest child)) s.path_is w
      (subst (λ x. StandsAt false (steps_to_new_pair (suc (kept_whole rest child)) (i ∷ rest)) mid None (before_child old i ++ before_gap rest x)) k.is b)

  -- below an inner node, where the child was split
  pub led_above : {p : List ℕ} {old mid c child : Node K V Z} (new : Node K V Z) (t : Split K V Z) (up : K × V) (r : Node K V Z)
      → IsCascadeStep p old child → IsReplaced old mid (get_or p 0 0) c → cascade (rest_of p) child ≡ length (rest_of p)
      → MatchOption t (length (own_pairs old) < capacity) (λ _. length (own_pairs old) ≡ capacity)
      → own_pairs_after new t ≡ insert (own_pairs mid) (get_or p 0 0) up
      → children_after new t ≡ insert (children_of mid) (get_or p 0 0 + 1) r → IsInner new
      → IfSome t (λ _. length (own_pairs new) ≡ left_length (get_or p 0 0)) → IsLedToNewPair (rest_of p) child c (Some (up, r)) → IsLedToNewPair p old new t
  led_above {p} {old} {mid} {c} {child} new t up r k m le room a b inner left h =
      let s = k.step in
      let rest : List ℕ = rest_of p in
      let i : ℕ = get_or p 0 0 in
      let all : kept_whole rest child ≡ 0 = omega arith in
      let g : StandsAt (is_right 0 rest) (steps_to_new_pair 0 rest) c (Some (up, r)) (before_gap rest (child_at old i)) =
      subst (λ x. StandsAt (is_right 0 rest) (steps_to_new_pair 0 rest) c (Some (up, r)) (before_gap rest x)) k.is (rw all at h) in
      stands t room left
      (stepped_above old i s.le s.inner mid c (is_right 0 rest) (steps_to_new_pair 0 rest) (before_gap rest (child_at old i)) up r _ _ m a b g)
    where
      stands : (t : Split K V Z) → MatchOption t (length (own_pairs old) < capacity) (λ _. length (own_pairs old) ≡ capacity)
          → IfSome t (λ _. length (own_pairs new) ≡ left_length (get_or p 0 0))
          → HasStep (steps_to_new_pair 0 (rest_of p)) (children_after new t) (own_pairs_after new t) (step_from (get_or p 0 0) (is_right 0 (rest_of p)))
          (before_child old (get_or p 0 0) ++ before_gap (rest_of p) (child_at old (get_or p 0 0))) → IsLedToNewPair p old new t
      stands None room left st =
          let s = k.step in
          let part = k.room room in
          by_steps p (get_or p 0 0 ∷ rest_of p) old new None 1 s.path_is (omega arith) (step_in _ new _ _ st)
      stands (Some x) room left st =
          let full = k.full room (omega arith) in
          let i : ℕ = get_or p 0 0 in
          let right = nat_lt (left_length i) (step_from i (is_right 0 (rest_of p))) in
          by_steps p (i ∷ rest_of p) old new (Some x) 0 k.step.path_is (omega arith) (step_half _ new x.0 x.1 (left_length i) _ _ inner left st right refl)

  -- a leaf
  leaf_front : (n : Node K V Z) (i : ℕ) → IsLeaf n → before_own n i ≡ take i (own_pairs n)
  leaf_front n i e = ap (λ cs. weave (map pairs_of (take (suc i) cs)) (take i (own_pairs n))) (leaf_children n e)

  leaf_half : (n : Node K V Z) (up : K × V) (b : Node K V Z) (k i : ℕ) (f : List (K × V)) → IsLeaf n → IsLeaf b → length (own_pairs n) ≡ k → (i ≡ k → ⊥)
      → i < length (own_pairs n ++ up ∷ own_pairs b) → take i (own_pairs n ++ up ∷ own_pairs b) ≡ f
      → (test : Bool) → nat_lt k i ≡ test → StandsAt test ((if test then i - (k + 1) else i) ∷ []) n (Some (up, b)) f
  leaf_half n up b k i f l₁ l₂ e ne lt g false is =
      let le : i ≤ k = ltb-false k i is in
      (omega (arith, ne), leaf_front n i l₁ ∙ sym (take-append-le i (own_pairs n) (up ∷ own_pairs b) (omega arith)) ∙ g)
  leaf_half n up r k i f l₁ l₂ e ne lt g true is =
      let gt : k < i = ltb-true k i is in
      let l = length-append (own_pairs n) (up ∷ own_pairs r) in
      let at_pairs : i ≡ length (own_pairs n) + suc (i - (k + 1)) = omega arith in (
        omega arith,
        ap (λ zs. pairs_of n ++ up ∷ zs) (leaf_front r (i - (k + 1)) l₂) ∙ ap (λ zs. zs ++ up ∷ take (i - (k + 1)) (own_pairs r)) (leaf_pairs n l₁)
            ∙ sym (ap (λ x. take x (own_pairs n ++ up ∷ own_pairs r)) at_pairs ∙ take-append-add (own_pairs n) (up ∷ own_pairs r) (suc (i - (k + 1)))) ∙ g,
      )

  -- in one that was not split
  leaf_place : (old new : Node K V Z) (i : ℕ) (pair : K × V) → IsLeaf old → IsLeaf new → i ≤ length (own_pairs old)
      → own_pairs new ≡ insert (own_pairs old) i pair → IsPlace (i ∷ []) new × (before_pair (i ∷ []) new ≡ before_gap (i ∷ []) old)
  leaf_place old new i pair l₁ l₂ le e =
      let n : length (own_pairs new) ≡ length (own_pairs old) + 1 = ap length e ∙ length-insert (own_pairs old) i pair le in
      (omega arith, leaf_front new i l₂ ∙ ap (take i) e ∙ take_put (own_pairs old) i pair le ∙ sym (leaf_before old i l₁))

  leaf_led : (old new : Node K V Z) (i : ℕ) (s : Split K V Z) (pair : K × V) → IsLeaf old → IsLeaf new → IfSome s (λ x. IsLeaf x.1)
      → i ≤ length (own_pairs old) → own_pairs_after new s ≡ insert (own_pairs old) i pair
      → MatchOption s (length (own_pairs old) < capacity) (λ _. length (own_pairs old) ≡ capacity) → IfSome s (λ _. length (own_pairs new) ≡ left_length i)
      → IsLedToNewPair (i ∷ []) old new s
  leaf_led old new i None pair l₁ l₂ l₃ le e room left =
      let none = leaf_room (i ∷ []) old refl room in
      by_steps (i ∷ []) (i ∷ []) old new None 1 refl (omega arith) (leaf_place old new i pair l₁ l₂ le e)
  leaf_led old new i (Some x) pair l₁ l₂ l₃ le e room left =
      let all = leaf_full (i ∷ []) old refl room in
      let n : length (own_pairs new ++ x.0 ∷ own_pairs x.1) ≡ length (own_pairs old) + 1 = ap length e ∙ length-insert (own_pairs old) i pair le in
      by_steps (i ∷ []) (i ∷ []) old new (Some x) 0 refl (omega arith)
      (leaf_half new x.0 x.1 (left_length i) i _ l₂ l₃ left (beside i) (omega arith)
      (ap (take i) e ∙ take_put (own_pairs old) i pair le ∙ sym (leaf_before old i l₁)) (nat_lt (left_length i) i) refl)

  pub led_leaf : (p : List ℕ) (old new : Node K V Z) (s : Split K V Z) (pair : K × V) → p ≡ get_or p 0 0 ∷ [] → IsLeaf old → IsLeaf new
      → IfSome s (λ x. IsLeaf x.1) → get_or p 0 0 ≤ length (own_pairs old) → own_pairs_after new s ≡ insert (own_pairs old) (get_or p 0 0) pair
      → MatchOption s (length (own_pairs old) < capacity) (λ _. length (own_pairs old) ≡ capacity)
      → IfSome s (λ _. length (own_pairs new) ≡ left_length (get_or p 0 0)) → IsLedToNewPair p old new s
  led_leaf p old new s pair o l₁ l₂ l₃ le e room left = subst (λ q. IsLedToNewPair q old new s) (sym o)
      (leaf_led old new (get_or p 0 0) s pair l₁ l₂ l₃ le e room left)

  -- what is before a place tells which pair is there, and what is after it
  put_at : (p : List ℕ) (n : Node K V Z) (pair : K × V) (front back : List (K × V)) (h : ℕ) → IsLevelled h n → pairs_of n ≡ front ++ pair ∷ back
      → IsPlace p n × (before_pair p n ≡ front) → IsPutAt p n pair front back
  put_at p n pair front back h l e w =
      let c = place_pairs p h n l w.0 in
      let d = same_cut (before_pair p n) (after_pair p n) front back c.pair pair (sym c.parts ∙ e) w.1 in
      record { place = w.0; pair_is = c.is ∙ ap Some d.0; before = w.1; after = d.1 }

  -- into a leaf that has room
  pub put_in_room : (p : List ℕ) (old new : Node K V Z) (pair : K × V) → p ≡ get_or p 0 0 ∷ [] → IsLeaf old → IsLeaf new → length (own_pairs old) < capacity
      → get_or p 0 0 ≤ length (own_pairs old) → own_pairs new ≡ insert (own_pairs old) (get_or p 0 0) pair
      → pairs_of new ≡ before_gap p old ++ pair ∷ after_gap p old
      → IsPutAt p new pair (before_gap p old) (after_gap p old)
  put_in_room p old new pair o l₁ l₂ room le e parts =
      let n : length (own_pairs new) ≡ length (own_pairs old) + 1 = ap length e ∙ length-insert (own_pairs old) (get_or p 0 0) pair le in
      put_at p new pair _ _ 0 (omega arith, l₂) parts (subst (λ q. IsPlace q new × (before_pair q new ≡ before_gap q old)) (sym o)
      (leaf_place old new (get_or p 0 0) pair l₁ l₂ le e))

  -- below an inner node that stays whole
  pub put_in_room_below : (p : List ℕ) (old mid c child : Node K V Z) (pair : K × V) (h : ℕ) → IsStep p old → IsReplaced old mid (get_or p 0 0) c
      → child ≡ child_at old (get_or p 0 0) → IsLevelled h mid → pairs_of mid ≡ before_gap p old ++ pair ∷ after_gap p old
      → IsPutAt (slice_range p 1 (length p)) c pair (before_gap (slice_range p 1 (length p)) child) (after_gap (slice_range p 1 (length p)) child)
      → IsPutAt p mid pair (before_gap p old) (after_gap p old)
  put_in_room_below p old mid c child pair h s m ci l parts w =
      let rest : List ℕ = slice_range p 1 (length p) in
      let i : ℕ = get_or p 0 0 in
      let b = stands_below old i s.le s.inner mid c false rest (before_gap rest child) m (w.place, w.before) in
      put_at p mid pair _ _ h l parts (subst (λ q. IsPlace q mid × (before_pair q mid ≡ before_gap q old)) (sym s.path_is)
      (subst (λ x. IsPlace (i ∷ rest) mid × (before_pair (i ∷ rest) mid ≡ before_child old i ++ before_gap rest x)) ci b))

  -- in a tree that is as high as before
  pub put_same : (p : List ℕ) (old new : Node K V Z) (pair : K × V) (h : ℕ) → cascade p old < length p → IsLevelled h new
      → pairs_of new ≡ before_gap p old ++ pair ∷ after_gap p old → IsLedToNewPair p old new None
      → IsPutAt (path_after (nodes_needed p old) p) new pair (before_gap p old) (after_gap p old)
  put_same p old new pair h lt l e a =
      rw (needed_part p old lt, le-ltb (length p) (cascade p old) (omega arith)) (put_at _ new pair _ _ h l e (here _ a))
    where
      here : (b : Bool) → StandsAt b (steps_to_new_pair (kept_whole p old) p) new None (before_gap p old)
          → IsPlace (steps_to_new_pair (kept_whole p old) p) new × (before_pair (steps_to_new_pair (kept_whole p old) p) new ≡ before_gap p old)
      here false w = w
      here true w = absurd w

  -- under a new root
  root_step : (b : Bool) (q : List ℕ) (root left : Node K V Z) (right : Node K V Z) (up : K × V) (f : List (K × V)) → own_pairs root ≡ up ∷ []
      → children_of root ≡ left ∷ right ∷ [] → StandsAt b q left (Some (up, right)) f
      → IsPlace (step_from 0 b ∷ q) root × (before_pair (step_from 0 b ∷ q) root ≡ f)
  root_step b q root left right up f e k w =
      step_in q root (step_from 0 b) f (subst (λ cs. HasStep q cs (own_pairs root) (step_from 0 b) f) (sym k)
      (subst (λ ps. HasStep q (left ∷ right ∷ []) ps (step_from 0 b) f) (sym e) (both b w)))
    where
      both : (b : Bool) → StandsAt b q left (Some (up, right)) f → HasStep q (left ∷ right ∷ []) (up ∷ []) (step_from 0 b) f
      both false w = step_here q [] (right ∷ []) [] (up ∷ []) left 0 f refl refl w.0 w.1
      both true w = step_next q [] [] [] [] left right up 0 f refl refl w.0 w.1

  pub put_higher : (p : List ℕ) (old root left : Node K V Z) (right : Node K V Z) (up pair : K × V) (h : ℕ) → cascade p old ≡ length p
      → own_pairs root ≡ up ∷ []
      → children_of root ≡ left ∷ right ∷ [] → IsBelow h left → IsBelow h right
      → pairs_of left ++ up ∷ pairs_of right ≡ before_gap p old ++ pair ∷ after_gap p old → IsLedToNewPair p old left (Some (up, right))
      → IsPutAt (path_after (nodes_needed p old) p) root pair (before_gap p old) (after_gap p old)
  put_higher p old root left right up pair h c e k b₁ b₂ parts a =
      let none : kept_whole p old ≡ 0 = omega arith in
      let more : length p < cascade p old + 1 = omega arith in
      let w = root_step (is_right 0 p) (steps_to_new_pair 0 p) root left right up (before_gap p old) e k (rw none at a) in
      rw (needed_whole p old (omega arith), lt-ltb (length p) (cascade p old + 1) more)
      (put_at _ root pair _ _ (suc h) (levelled_root h root left right up e k b₁ b₂) (put_root root left right up e k ∙ parts) w)

  -- no step of a path is above the most pairs of a node
  pub small_steps : (p : List ℕ) (h : ℕ) (n : Node K V Z) → length p ≡ h + 1 → IsPath p n → IsLevelled h n → AllByRecursion (λ i. i ≤ capacity) p
  small_steps [] h n e w l = tt
  small_steps (i ∷ []) zero n e w l = (omega arith, tt)
  small_steps (i ∷ j ∷ p) zero n e w l = absurd (omega arith)
  small_steps (i ∷ p) (suc h) n e w l = (
    omega arith,
    small_steps p h (child_at n i) (omega arith) w.1 (child_below h n i l w.0).1,
  )

  -- the path to the new pair is short enough
  pub steps_fit : (p : List ℕ) (n : Node K V Z) (nodes : ℕ) → nodes ≡ nodes_needed p n → steps_after p n ≤ most_levels
      → length p + (if nat_lt (length p) nodes then 1 else 0) ≤ most_levels
  steps_fit p n nodes e h = rw e (fits (all_full p n) refl)
    where
      one : (b : Bool) → (if b then 1 else 0) ≤ 1
      one true = omega arith
      one false = omega arith

      fits : (b : Bool) → all_full p n ≡ b → length p + (if nat_lt (length p) (nodes_needed p n) then 1 else 0) ≤ most_levels
      fits true is = let m = one (nat_lt (length p) (nodes_needed p n)) in let s : length p + 1 ≤ most_levels = rw is at h in omega arith
      fits false is =
          let lt = cascade_part p n is in
          let s : length p ≤ most_levels = rw is at h in
          rw (needed_part p n lt, le-ltb (length p) (cascade p n) (omega arith)) (omega arith)

  -- it is, in a tree that has room for one pair more in 64 bits
  pub steps_few : (p : List ℕ) (n : Node K V Z) → 0 < length p → IsSoundRoot (length p - 1) n → length (pairs_of n) + 1 < 2 ^ 64 → steps_after p n ≤ most_levels
  steps_few p n some s few = steps (all_full p n) refl
    where
      steps : (b : Bool) → all_full p n ≡ b → steps_after p n ≤ most_levels
      steps true is =
          let d = few_levels (suc (length p - 1)) (length (pairs_of n)) (deep_full (length p - 1) n (first_full p n some is) s.1) (omega arith) in
          rw is (omega arith)
      steps false is =
          let d = few_levels (length p - 1) (length (pairs_of n)) (deep_root (length p - 1) n s) (omega arith) in
          rw is (omega arith)
