-- From a gap of a leaf to its neighbours in the leaf.
use Rattle.std.proofs.Common.{◌≡◌, ℕ, zero, suc, ◌+◌, ◌-◌, ◌<◌, ◌≤◌, List, [], ◌∷◌, ◌++◌, length, take, get_or, refl, sym, ap, subst, ◌∙◌, arith}
use Rattle.std.proofs.Common.{add-one, Some, None, length-append, append-nil, append_assoc}
use Rattle.std.proofs.lemmas.List.{take_all, take_more_set, get_or-set_same}
use Rattle.std.specs.Prelude.{slice_range, slice_set}
use Rattle.fc_base.specs.Sizes.{capacity}
use Rattle.fc_tree_node.specs.declared.node.Node.{Node}
use Rattle.fc_tree_node.specs.Node.{own_pairs, child_at, IsLevelled}
use Rattle.fc_tree_node.specs.LeafGap.{IsLeafGap}
use Rattle.fc_tree_node.specs.Path.{IsPath, before_gap}
use Rattle.fc_tree_node.specs.Place.{before_child, before_own, IsPlace, before_pair, node_at}
use Rattle.fc_tree_node.proofs.Gaps.{take_item, place_more, before_own_more}
use Rattle.fc_tree_node.proofs.Lists.{length_set}
use Rattle.fc_tree_node.proofs.Sizes.{level_size}
use Rattle.fc_tree_node.proofs.Pairs.{child_below}
use Rattle.fc_tree_node.proofs.PathSteps.{IsStep}
use Rattle.fc_tree_node.specs.Tree.{Map, IsSoundMap}
use Rattle.fc_tree_node.specs.TreePlace.{IsPlaceIn, before_gap_in, before_pair_in}
use Rattle.fc_tree_cursor.specs.Gap.{IsGapIn, zeros}
use Rattle.fc_tree_cursor.proofs.GapFacts.{next_leaf, pair_after_gap}
use Rattle.fc_tree_cursor.proofs.Ways.{IsNextAt, way_levels}
use Rattle.fc_tree_cursor.specs.Leaf.{advanced, IsHolder}

pub on_length : (gap : List ℕ) (k : ℕ) → length (advanced gap k) ≡ length gap
on_length [] k = refl
on_length (i ∷ []) k = refl
on_length (i ∷ j ∷ gap) k = ap suc (on_length (j ∷ gap) k)

pub on_none : (gap : List ℕ) → advanced gap 0 ≡ gap
on_none [] = refl
on_none (i ∷ []) = ap (λ n. n ∷ []) (omega arith)
on_none (i ∷ j ∷ gap) = ap (λ p. i ∷ p) (on_none (j ∷ gap))

pub on_again : (gap : List ℕ) (k m : ℕ) → advanced (advanced gap k) m ≡ advanced gap (k + m)
on_again [] k m = refl
on_again (i ∷ []) k m = ap (λ n. n ∷ []) (omega arith)
on_again (i ∷ j ∷ []) k m = ap (λ p. i ∷ p) (on_again (j ∷ []) k m)
on_again (i ∷ j ∷ l ∷ gap) k m = ap (λ p. i ∷ p) (on_again (j ∷ l ∷ gap) k m)

-- the steps of a path that went on
pub on_parts : (gap : List ℕ) (last k : ℕ) → last + 1 ≡ length gap → advanced gap k ≡ take last gap ++ (get_or gap last 0 + k) ∷ []
on_parts [] last k e = absurd (omega arith)
on_parts (i ∷ []) zero k e = refl
on_parts (i ∷ []) (suc last) k e = absurd (omega arith)
on_parts (i ∷ j ∷ gap) zero k e = absurd (omega arith)
on_parts (i ∷ j ∷ gap) (suc last) k e = ap (λ p. i ∷ p) (on_parts (j ∷ gap) last k (omega arith))

pub on_last : (gap : List ℕ) (last k : ℕ) → last + 1 ≡ length gap → get_or (advanced gap k) last 0 ≡ get_or gap last 0 + k
on_last [] last k e = absurd (omega arith)
on_last (i ∷ []) zero k e = refl
on_last (i ∷ []) (suc last) k e = absurd (omega arith)
on_last (i ∷ j ∷ gap) zero k e = absurd (omega arith)
on_last (i ∷ j ∷ []) (suc last) k e = on_last (j ∷ []) last k (omega arith)
on_last (i ∷ j ∷ l ∷ gap) (suc last) k e = on_last (j ∷ l ∷ gap) last k (omega arith)

-- the last step of a path set to another one
pub last_leaf_edge_at : (gap : List ℕ) (last k : ℕ) → last + 1 ≡ length gap → slice_set gap last (get_or gap last 0 + k) ≡ advanced gap k
last_leaf_edge_at [] last k e = refl
last_leaf_edge_at (i ∷ []) zero k e = refl
last_leaf_edge_at (i ∷ []) (suc last) k e = absurd (omega arith)
last_leaf_edge_at (i ∷ j ∷ gap) zero k e = absurd (omega arith)
last_leaf_edge_at (i ∷ j ∷ gap) (suc last) k e = ap (λ p. i ∷ p) (last_leaf_edge_at (j ∷ gap) last k (omega arith))

pub set_back : (gap : List ℕ) (last : ℕ) → last + 1 ≡ length gap → 0 < get_or gap last 0 → advanced (slice_set gap last (get_or gap last 0 - 1)) 1 ≡ gap
set_back [] last e k = refl
set_back (i ∷ []) zero e k = ap (λ n. n ∷ []) (omega arith)
set_back (i ∷ []) (suc last) e k = absurd (omega arith)
set_back (i ∷ j ∷ gap) zero e k = absurd (omega arith)
set_back (i ∷ j ∷ []) (suc zero) e k = ap (λ p. i ∷ p) (set_back (j ∷ []) zero refl k)
set_back (i ∷ j ∷ []) (suc (suc last)) e k = absurd (omega arith)
set_back (i ∷ j ∷ l ∷ gap) (suc zero) e k = absurd (omega arith)
set_back (i ∷ j ∷ l ∷ gap) (suc (suc last)) e k = ap (λ p. i ∷ p) (set_back (j ∷ l ∷ gap) (suc last) (omega arith) k)

module _ {K V Z : Type 0} where
  -- so many pairs of the leaf lie after a gap
  pub record AreAllAfter (gap : List ℕ) (n : Node K V Z) (run : ℕ) : Type 0 where
    pub there : IsPath (advanced gap run) n
    pub all : (k : ℕ) → IsPath (advanced gap k) n → k ≤ run

  after_at_leaf : (i : ℕ) (n : Node K V Z) → i ≤ length (own_pairs n) → AreAllAfter (i ∷ []) n (length (own_pairs n) - i)
  after_at_leaf i n le = record { there = (omega arith, tt); all = λ k w. omega arith }

  after_below : (i : ℕ) (rest : List ℕ) (n : Node K V Z) (run : ℕ) → 0 < length rest → i ≤ length (own_pairs n) → AreAllAfter rest (child_at n i) run
      → AreAllAfter (i ∷ rest) n run
  after_below i [] n run some le x = absurd (omega arith)
  after_below i (j ∷ rest) n run some le x = record { there = (le, x.there); all = λ k w. x.all k w.1 }

  -- the same by the steps of a path
  pub after_leaf : (gap : List ℕ) (n : Node K V Z) → gap ≡ get_or gap 0 0 ∷ [] → IsPath gap n → AreAllAfter gap n (length (own_pairs n) - get_or gap 0 0)
  after_leaf gap n e w = subst (λ g. AreAllAfter g n (length (own_pairs n) - get_or gap 0 0)) (sym e)
      (after_at_leaf (get_or gap 0 0) n (subst (λ g. IsPath g n) e w).0)

  pub after_own_child : (gap : List ℕ) (n : Node K V Z) (run : ℕ) → 2 ≤ length gap → (s : IsStep gap n)
      → AreAllAfter (slice_range gap 1 (length gap)) (child_at n (get_or gap 0 0)) run → AreAllAfter gap n run
  after_own_child gap n run more s x = subst (λ g. AreAllAfter g n run) (sym s.path_is) (after_below _ _ n run (omega arith) s.le x)

  -- a gap of a leaf with a pair of the leaf after it, and the gap after that pair
  pub record IsNear (m : Map K V Z) (gap next : List ℕ) : Type 0 where
    pub start : IsGapIn m gap
    pub place : IsPlaceIn m gap
    pub before : length (before_pair_in m gap) ≡ length (before_gap_in m gap)
    pub slot : IsGapIn m next
    pub count : length (before_gap_in m next) ≡ length (before_gap_in m gap) + 1

  near : (h : ℕ) (n : Node K V Z) (gap : List ℕ) (k : ℕ) → IsLevelled h n → length gap ≡ h + 1 → IsPath (advanced gap (suc k)) n
      → IsPath gap n × IsPlace gap n × (length (before_pair gap n) ≡ length (before_gap gap n)) × IsPath (advanced gap 1) n
      × (length (before_gap (advanced gap 1) n) ≡ length (before_gap gap n) + 1)
  near h n [] k l e w = absurd (omega arith)
  near (suc h) n (i ∷ []) k l e w = absurd (omega arith)
  near zero n (i ∷ []) k l e w =
      let there : i < length (own_pairs n) = omega arith in
      let x = next_leaf (i ∷ []) n 1 refl (omega arith, tt) l (λ z. absurd (omega arith)) (λ _. (refl, there)) in
      let a = x.before (omega arith) in
      let b = pair_after_gap (i ∷ []) 0 0 0 n l refl (omega arith, tt) refl there in
      ((omega arith, tt), there, a, b.way, b.count ∙ ap (λ c. c + 1) a)
  near zero n (i ∷ j ∷ gap) k l e w = absurd (omega arith)
  near (suc h) n (i ∷ j ∷ gap) k l e w =
      let c = length-append (before_child n i) (before_gap (j ∷ gap) (child_at n i)) in
      let r = near h (child_at n i) (j ∷ gap) k (child_below h n i l w.0).1 (omega arith) w.1 in
      let a = length-append (before_child n i) (before_pair (j ∷ gap) (child_at n i)) in
      let d = length-append (before_child n i) (before_gap (advanced (j ∷ gap) 1) (child_at n i)) in
      ((w.0, r.0), (omega arith, r.1), omega arith, (w.0, r.3), omega arith)

  pub gap_near : (m : Map K V Z) (gap : List ℕ) (k : ℕ) → IsSoundMap m → 0 < length gap → IsGapIn m (advanced gap (suc k)) → IsNear m gap (advanced gap 1)
  gap_near None gap k sound some w = absurd (let e = ap length w in let d = on_length gap (suc k) in omega arith)
  gap_near (Some root) gap k sound some w =
      let h = sound.0 in
      let l = sound.2.1 in
      let long = on_length gap (suc k) in
      let deep = w.1 h l in
      let r = near h root gap k l (omega arith) w.0 in
      record { start = (r.0, λ j o. sym long ∙ w.1 j o); place = r.1; before = r.2; slot = (r.3, λ j o. on_length gap 1 ∙ sym long ∙ w.1 j o); count = r.4 }

  -- the node of the pair after a gap
  pub is_holder : (gap : List ℕ) (root n : Node K V Z) (h level : ℕ) → IsLevelled h root → IsLeafGap gap root
      → IsNextAt gap root n level (length (before_gap gap root)) → IsHolder gap root level n
  is_holder gap root n h level l g x =
      let s = take level gap in
      let i = get_or gap level 0 in
      let w = x.way in
      let own : i < length (own_pairs (node_at s root)) = subst (λ d. i < length (own_pairs d)) w.2 x.own in
      let here : take (suc level) gap ≡ s ++ i ∷ [] = take_item gap level 0 w.0 in
      let a = length-append (before_gap s root) (before_own (node_at s root) i) in
      let o = ap (λ d. length (before_own d i)) w.2 in
      let b = x.before in
      let deep : length gap - level - 1 ≡ length gap - suc level = omega arith in (
        w.0,
        subst (λ q. IsPlace q root) (sym here) (place_more s i root w.1 own),
        ap (λ q. length (before_pair q root)) here ∙ ap length (before_own_more s i root) ∙ omega (arith, a, o, b),
        w.2,
        x.own,
        subst (λ k. IsLevelled k n) deep (way_levels gap h level root n l g w),
      )

  pub own_small : (gap : List ℕ) (root : Node K V Z) (way : ℕ) (n : Node K V Z) → IsHolder gap root way n → get_or gap way 0 < capacity
  own_small gap root way n x = let k = x.4 in let f = level_size (length gap - suc way) n x.5 in omega (arith, k, f)

  -- down by first children
  pub record IsDown (gap new : List ℕ) (n : Node K V Z) (level run : ℕ) : Type 0 where
    pub gap_is : new ≡ take (suc level) gap ++ zeros (length gap - suc level)
    pub run_is : IsPath (advanced (get_or gap level 0 ∷ zeros (length gap - suc level)) run) n
    pub run_all : (k : ℕ) → IsPath (advanced (get_or gap level 0 ∷ zeros (length gap - suc level)) k) n → k ≤ run

  pub down_leaf : (gap : List ℕ) (n : Node K V Z) (level : ℕ) → suc level ≡ length gap → get_or gap level 0 ≤ length (own_pairs n)
      → IsDown gap gap n level (length (own_pairs n) - get_or gap level 0)
  down_leaf gap n level e le =
      let none : 0 ≡ length gap - suc level = omega (arith, e) in
      let s = get_or gap level 0 in
      let r = length (own_pairs n) - s in
      let fits : s + r ≤ length (own_pairs n) = omega (arith, le) in
      record {
        gap_is = sym (ap (λ k. take (suc level) gap ++ zeros k) (sym none) ∙ append-nil (take (suc level) gap) ∙ take_all (suc level) gap (omega (arith, e)));
        run_is = subst (λ k. IsPath (advanced (s ∷ zeros k) r) n) none (fits, tt);
        run_all = λ k w. let u = (subst (λ j. IsPath (advanced (s ∷ zeros j) k) n) (sym none) w).0 in omega (arith, u);
      }

  down_next : (gap mid new : List ℕ) (n : Node K V Z) (level run : ℕ) → suc level < length gap → get_or gap level 0 ≤ length (own_pairs n)
      → mid ≡ slice_set gap (suc level) 0 → IsDown mid new (child_at n (get_or gap level 0)) (suc level) run → IsDown gap new n level run
  down_next gap mid new n level run k le is d =
      let long = ap length is ∙ length_set gap (suc level) 0 in
      let m = length mid - suc (suc level) in
      let more : suc m ≡ length gap - suc level = omega (arith, long, k) in
      let c = child_at n (get_or gap level 0) in
      let first : get_or mid (suc level) 0 ≡ 0 = ap (λ p. get_or p (suc level) 0) is ∙ get_or-set_same gap (suc level) 0 0 k in
      let prefix : take (suc (suc level)) mid ≡ take (suc level) gap ++ 0 ∷ [] = ap (take (suc (suc level))) is
      ∙ (rw add-one at (take_more_set gap (suc level) 0 k)) in
      record {
        gap_is = d.gap_is ∙ ap (λ p. p ++ zeros m) prefix ∙ append_assoc (take (suc level) gap) (0 ∷ []) (zeros m)
            ∙ ap (λ k. take (suc level) gap ++ zeros k) more;
        run_is = subst (λ k. IsPath (advanced (get_or gap level 0 ∷ zeros k) run) n) more
            (le, subst (λ i. IsPath (advanced (i ∷ zeros m) run) c) first d.run_is);
        run_all = λ k w. d.run_all k (subst (λ i. IsPath (advanced (i ∷ zeros m) k) c) (sym first)
            (subst (λ j. IsPath (advanced (get_or gap level 0 ∷ zeros j) k) n) (sym more) w).1);
      }

  pub down_child : (gap mid new : List ℕ) (n c : Node K V Z) (level next run : ℕ) → next ≡ suc level → next < length gap
      → get_or gap level 0 ≤ length (own_pairs n) → mid ≡ slice_set gap next 0 → c ≡ child_at n (get_or gap level 0) → IsDown mid new c next run
      → IsDown gap new n level run
  down_child gap mid new n c level next run e k le is same d =
      down_next gap mid new n level run (subst (λ j. j < length gap) e k) le (subst (λ j. mid ≡ slice_set gap j 0) e is)
      (subst (λ j. IsDown mid new (child_at n (get_or gap level 0)) j run) e (subst (λ c. IsDown mid new c next run) same d))

  -- a path's run below a node on its way
  run_below : (way : ℕ) (gap : List ℕ) (i : ℕ) (rest : List ℕ) (n : Node K V Z) (run : ℕ) → IsPath gap n → way < length gap
      → IsPath (advanced (i ∷ rest) run) (node_at (take way gap) n) → IsPath (advanced (take way gap ++ i ∷ rest) run) n
  run_below zero gap i rest n run p k w = w
  run_below (suc way) [] i rest n run p k w = absurd (omega arith)
  run_below (suc zero) (j ∷ gap) i rest n run p k w = (p.0, w)
  run_below (suc (suc way)) (j ∷ []) i rest n run p k w = absurd (omega arith)
  run_below (suc (suc way)) (j ∷ l ∷ gap) i rest n run p k w = (p.0, run_below (suc way) (l ∷ gap) i rest (child_at n j) run p.1 (omega (arith, k)) w)

  run_above : (way : ℕ) (gap : List ℕ) (i : ℕ) (rest : List ℕ) (n : Node K V Z) (k : ℕ) → way < length gap
      → IsPath (advanced (take way gap ++ i ∷ rest) k) n → IsPath (advanced (i ∷ rest) k) (node_at (take way gap) n)
  run_above zero gap i rest n k h w = w
  run_above (suc way) [] i rest n k h w = absurd (omega arith)
  run_above (suc zero) (j ∷ gap) i rest n k h w = w.1
  run_above (suc (suc way)) (j ∷ []) i rest n k h w = absurd (omega arith)
  run_above (suc (suc way)) (j ∷ l ∷ gap) i rest n k h w = run_above (suc way) (l ∷ gap) i rest (child_at n j) k (omega (arith, h)) w.1

  -- over a pair of a node on the way
  pub record IsNextEdge (gap new : List ℕ) (root : Node K V Z) (way place run : ℕ) : Type 0 where
    pub place_is : IsPlace (take way gap ++ place ∷ []) root
    pub before : length (before_pair (take way gap ++ place ∷ []) root) ≡ length (before_gap gap root)
    pub gap_is : new ≡ take way gap ++ (place + 1) ∷ zeros (length gap - suc way)
    pub run_is : IsPath (advanced new run) root
    pub run_all : (k : ℕ) → IsPath (advanced new k) root → k ≤ run

  pub next_edge : (gap mid new : List ℕ) (root n : Node K V Z) (way place run : ℕ) → IsPath gap root → IsHolder gap root way n → place ≡ get_or gap way 0
      → mid ≡ slice_set gap way (place + 1) → IsDown mid new n way run → IsNextEdge gap new root way place run
  next_edge gap mid new root n way place run p h own is d =
      let long = ap length is ∙ length_set gap way (place + 1) in
      let m = length gap - suc way in
      let here : take (suc way) gap ≡ take way gap ++ place ∷ [] = take_item gap way 0 h.0 ∙ ap (λ i. take way gap ++ i ∷ []) (sym own) in
      let same : length mid - suc way ≡ m = omega (arith, long) in
      let step : get_or mid way 0 ≡ place + 1 = ap (λ p. get_or p way 0) is ∙ get_or-set_same gap way (place + 1) 0 h.0 in
      let prefix : take (suc way) mid ≡ take way gap ++ (place + 1) ∷ [] = ap (take (suc way)) is ∙ (rw add-one at (take_more_set gap way (place + 1) h.0)) in
      let all = d.gap_is ∙ ap (λ p. p ++ zeros (length mid - suc way)) prefix ∙ ap (λ k. (take way gap ++ (place + 1) ∷ []) ++ zeros k) same
      ∙ append_assoc (take way gap) ((place + 1) ∷ []) (zeros m) in
      let run_there = subst (λ k. IsPath (advanced ((place + 1) ∷ zeros k) run) n) same
      (subst (λ i. IsPath (advanced (i ∷ zeros (length mid - suc way)) run) n) step d.run_is) in
      record {
        place_is = subst (λ p. IsPlace p root) here h.1;
        before = subst (λ p. length (before_pair p root) ≡ length (before_gap gap root)) here h.2;
        gap_is = all;
        run_is = subst (λ p. IsPath (advanced p run) root) (sym all) (run_below way gap (place + 1) (zeros m) root run p h.0
            (subst (IsPath (advanced ((place + 1) ∷ zeros m) run)) h.3 run_there));
        run_all = λ k w.
            let below = run_above way gap (place + 1) (zeros m) root k h.0 (subst (λ p. IsPath (advanced p k) root) all w) in
            let there = subst (IsPath (advanced ((place + 1) ∷ zeros m) k)) (sym h.3) below in
            d.run_all k (subst (λ i. IsPath (advanced (i ∷ zeros (length mid - suc way)) k) n) (sym step)
            (subst (λ j. IsPath (advanced ((place + 1) ∷ zeros j) k) n) (sym same) there));
      }
