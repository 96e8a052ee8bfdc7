-- From a gap of a leaf to the pair on either side, and to the gap on the other side of it.
use Rattle.std.proofs.Common.{◌≡◌, ℕ, zero, suc, ◌+◌, ◌-◌, ◌<◌, ◌≤◌, List, [], ◌∷◌, ◌++◌, length, take, get_or, refl, sym, ap, subst, ◌∙◌, arith, add-one, Some}
use Rattle.std.proofs.Common.{None, append-nil, append_assoc, length-append}
use Rattle.std.specs.Prelude.{slice_range}
use Rattle.fc_base.specs.Sizes.{capacity, most_levels}
use Rattle.fc_tree_node.specs.declared.node.Node.{Node}
use Rattle.fc_tree_node.specs.Leaf.{leaf_at}
use Rattle.fc_tree_node.specs.Node.{own_pairs, children_of, child_at, pairs_of, IsLevelled}
use Rattle.fc_tree_node.specs.Path.{IsPath, before_gap}
use Rattle.fc_tree_node.specs.Place.{before_child, after_child, before_own, IsPlace, before_pair}
use Rattle.fc_tree_node.proofs.Pairs.{child_below, leaf_children}
use Rattle.fc_tree_node.proofs.PathSteps.{IsStep}
use Rattle.fc_tree_node.proofs.Gaps.{leaf_gap, inner_gap, own_pair, before_child_pair, after_child_pair, after_none, item_there, step_levels}
use Rattle.fc_tree_node.proofs.Lists.{length_take}
use Rattle.fc_tree_node.specs.Tree.{Map, IsSoundMap}
use Rattle.fc_tree_cursor.specs.Gap.{zeros, one_back, GoesOn, EndsIn, IsGapIn}
use Rattle.fc_tree_cursor.proofs.Bounds.{same_cut}
use Rattle.fc_tree_node.specs.LeafGap.{IsLeafGap}
use Rattle.fc_tree_node.specs.TreePlace.{IsPlaceIn, before_gap_in, before_pair_in}

length_zeros : (k : ℕ) → length (zeros k) ≡ k
length_zeros zero = refl
length_zeros (suc k) = ap suc (length_zeros k)

-- the path to the pair before a gap
back_is : (gap : List ℕ) (last : ℕ) → last < length gap → one_back (take (suc last) gap) ≡ take last gap ++ (get_or gap last 0 - 1) ∷ []
back_is [] last k = absurd (omega arith)
back_is (i ∷ gap) zero k = refl
back_is (i ∷ []) (suc last) k = absurd (omega arith)
back_is (i ∷ j ∷ gap) (suc last) k = ap (λ p. i ∷ p) (back_is (j ∷ gap) last (omega arith))

module _ {K V Z : Type 0} where
  -- a node's pairs around a child, or around a gap of a leaf
  abbrev pub IsAround : Node K V Z → ℕ → List (K × V) → Type 0
  IsAround n i c = pairs_of n ≡ before_child n i ++ (c ++ after_child n i)

  pub around_gap : (h : ℕ) (n : Node K V Z) (i : ℕ) → IsLevelled h n → length (children_of n) ≤ i → i ≤ length (own_pairs n) → IsAround n i []
  around_gap zero n i l c le = leaf_gap n i l.1
  around_gap (suc h) n i l c le = absurd (omega arith)

  pub around_child : (h : ℕ) (n c : Node K V Z) (i : ℕ) → IsLevelled h n → i < length (children_of n) → c ≡ child_at n i → IsAround n i (pairs_of c)
  around_child h n c i l k is = let s = step_levels h n i l k in subst (λ d. IsAround n i (pairs_of d)) (sym is) (inner_gap n i s.4 s.3)

  pub around_length : (n : Node K V Z) (i : ℕ) (c : List (K × V)) → IsAround n i c
      → length (pairs_of n) ≡ length (before_child n i) + (length c + length (after_child n i))
  around_length n i c is = ap length is ∙ length-append (before_child n i) _ ∙ ap (λ m. length (before_child n i) + m) (length-append c (after_child n i))

  -- how many pairs are before a node's own pair: those that lead to the child before it, and that child's
  pub own_count : (h : ℕ) (n : Node K V Z) (i : ℕ) (c : List (K × V)) → IsLevelled h n → i < length (own_pairs n) → IsAround n i c
      → length (before_own n i) ≡ length (before_child n i) + length c
  own_count h n i c l k is =
      let x = (item_there (own_pairs n) i k).0 in
      omega (arith, ap length (own_pair h n i x l k) ∙ length-append (before_own n i) _, around_length n i c is, ap length (after_child_pair n i x k))

  -- and all pairs of the node are those before its end, and the last child's
  pub end_count : (n : Node K V Z) (i : ℕ) (c : List (K × V)) → length (own_pairs n) ≤ i → IsAround n i c
      → length (pairs_of n) ≡ length (before_child n i) + length c
  end_count n i c h is = omega (arith, around_length n i c is, ap length (after_none n i h))

  pub leaf_before_own : (n : Node K V Z) (i : ℕ) → IsLevelled 0 n → i < length (own_pairs n) → length (before_own n i) ≡ length (before_child n i)
  leaf_before_own n i l k = omega (arith, own_count 0 n i [] l k (leaf_gap n i l.1))

  pub inner_length : (h : ℕ) (n : Node K V Z) (i : ℕ) → IsLevelled (suc h) n → i ≤ length (own_pairs n)
      → length (pairs_of n) ≡ length (before_child n i) + (length (pairs_of (child_at n i)) + length (after_child n i))
  inner_length h n i l le = around_length n i (pairs_of (child_at n i)) (inner_gap n i l.1 le)

  pub inner_before : (h : ℕ) (n : Node K V Z) (i : ℕ) → IsLevelled (suc h) n → i < length (own_pairs n)
      → length (before_own n i) ≡ length (before_child n i) + length (pairs_of (child_at n i))
  inner_before h n i l k = own_count (suc h) n i (pairs_of (child_at n i)) l k (inner_gap n i l.1 (omega arith))

  -- the pair after a gap
  pub record IsNext (gap : List ℕ) (n : Node K V Z) (steps : ℕ) : Type 0 where
    pub within : steps ≤ length gap
    pub none : steps ≡ 0 → length (before_gap gap n) ≡ length (pairs_of n)
    pub place : 0 < steps → IsPlace (take steps gap) n
    pub before : 0 < steps → length (before_pair (take steps gap) n) ≡ length (before_gap gap n)

  next_at_leaf : (i : ℕ) (n : Node K V Z) (own : ℕ) → i ≤ length (own_pairs n) → IsLevelled 0 n → (own ≡ 0 → length (own_pairs n) ≤ i)
      → (0 < own → (own ≡ 1) × (i < length (own_pairs n))) → IsNext (i ∷ []) n own
  next_at_leaf i n zero le l z s =
      record {
        within = omega arith;
        none = λ e.
            let b = ap length (leaf_gap n i l.1) ∙ length-append (before_child n i) (after_child n i) in
            let c = ap length (after_none n i (z refl)) in
            let d = length-append (before_child n i) (before_gap [] (child_at n i)) in
            omega (arith, b, c, d);
        place = λ k. absurd (omega arith);
        before = λ k. absurd (omega arith);
      }
  next_at_leaf i n (suc zero) le l z s =
      let k = (s (omega arith)).1 in
      record {
        within = omega arith;
        none = λ e. absurd (omega arith);
        place = λ _. k;
        before = λ _. leaf_before_own n i l k ∙ ap length (sym (append-nil (before_child n i)));
      }
  next_at_leaf i n (suc (suc own)) le l z s = absurd (let e = (s (omega arith)).0 in omega arith)

  next_above : (i : ℕ) (rest : List ℕ) (h : ℕ) (n : Node K V Z) (own : ℕ) → i ≤ length (own_pairs n) → IsLevelled (suc h) n
      → length (before_gap rest (child_at n i)) ≡ length (pairs_of (child_at n i))
      → (own ≡ 0 → length (own_pairs n) ≤ i) → (0 < own → (own ≡ 1) × (i < length (own_pairs n))) → IsNext (i ∷ rest) n own
  next_above i rest h n zero le l e z s =
      record {
        within = omega arith;
        none = λ _.
            let b = inner_length h n i l le in
            let c = ap length (after_none n i (z refl)) in
            let d = length-append (before_child n i) (before_gap rest (child_at n i)) in
            omega (arith, b, c, d, e);
        place = λ k. absurd (omega arith);
        before = λ k. absurd (omega arith);
      }
  next_above i rest h n (suc zero) le l e z s =
      let k = (s (omega arith)).1 in
      record {
        within = omega arith;
        none = λ e. absurd (omega arith);
        place = λ _. k;
        before = λ _. let a = inner_before h n i l k in let d = length-append (before_child n i) (before_gap rest (child_at n i)) in omega (arith, a, d, e);
      }
  next_above i rest h n (suc (suc own)) le l e z s = absurd (let e = (s (omega arith)).0 in omega arith)

  next_below : (i : ℕ) (rest : List ℕ) (h : ℕ) (n : Node K V Z) (steps : ℕ) → i ≤ length (own_pairs n) → IsLevelled (suc h) n → IsNext rest (child_at n i) steps
      → 0 < steps → IsNext (i ∷ rest) n (suc steps)
  next_below i rest h n zero le l x k = absurd (omega arith)
  next_below i [] h n (suc steps) le l x k = absurd (omega arith)
  next_below i (j ∷ rest) h n (suc steps) le l x k =
      let e : length (children_of n) ≡ length (own_pairs n) + 1 = l.1 in
      record {
        within = omega (arith, x.within);
        none = λ e. absurd (omega arith);
        place = λ _. (omega arith, x.place k);
        before = λ _. length-append (before_child n i) _ ∙ ap (λ m. length (before_child n i) + m) (x.before k) ∙ sym (length-append (before_child n i) _);
      }

  -- the same by the steps of a path
  pub next_leaf : (gap : List ℕ) (n : Node K V Z) (own : ℕ) → gap ≡ get_or gap 0 0 ∷ [] → IsPath gap n → IsLevelled 0 n
      → (own ≡ 0 → length (own_pairs n) ≤ get_or gap 0 0) → (0 < own → (own ≡ 1) × (get_or gap 0 0 < length (own_pairs n))) → IsNext gap n own
  next_leaf gap n own e p l z s = subst (λ g. IsNext g n own) (sym e) (next_at_leaf (get_or gap 0 0) n own (subst (λ g. IsPath g n) e p).0 l z s)

  pub next_own : (gap : List ℕ) (n : Node K V Z) (own : ℕ) (s : IsStep gap n)
      → length (before_gap (slice_range gap 1 (length gap)) (child_at n (get_or gap 0 0))) ≡ length (pairs_of (child_at n (get_or gap 0 0)))
      → (own ≡ 0 → length (own_pairs n) ≤ get_or gap 0 0) → (0 < own → (own ≡ 1) × (get_or gap 0 0 < length (own_pairs n))) → IsNext gap n own
  next_own gap n own s e z o = subst (λ g. IsNext g n own) (sym s.path_is) (next_above _ _ _ n own s.le s.levels e z o)

  pub next_child : (gap : List ℕ) (n : Node K V Z) (steps : ℕ) (s : IsStep gap n) → IsNext (slice_range gap 1 (length gap)) (child_at n (get_or gap 0 0)) steps
      → 0 < steps → IsNext gap n (steps + 1)
  next_child gap n steps s x k = subst (λ g. IsNext g n (steps + 1)) (sym s.path_is) (rw (add-one steps) (next_below _ _ _ n steps s.le s.levels x k))

  -- the pair before a gap
  pub record IsLast (gap : List ℕ) (n : Node K V Z) (steps : ℕ) : Type 0 where
    pub within : steps ≤ length gap
    pub none : steps ≡ 0 → length (before_gap gap n) ≡ 0
    pub place : 0 < steps → IsPlace (one_back (take steps gap)) n
    pub before : 0 < steps → length (before_pair (one_back (take steps gap)) n) + 1 ≡ length (before_gap gap n)
    pub step : (last : ℕ) → last + 1 ≡ steps → 0 < get_or gap last 0

  last_own : (i : ℕ) (rest : List ℕ) (h : ℕ) (n : Node K V Z) (own : ℕ) → i ≤ length (own_pairs n) → IsLevelled h n
      → length (before_gap rest (child_at n i)) ≡ 0
      → (own ≡ 0 → i ≡ 0) → (0 < own → (own ≡ 1) × (0 < i)) → IsLast (i ∷ rest) n own
  last_own zero rest h n zero le l e z s =
      record {
        within = omega arith;
        none = λ _. e;
        place = λ k. absurd (omega arith);
        before = λ k. absurd (omega arith);
        step =
            λ last s. absurd (omega arith);
      }
  last_own (suc i) rest h n zero le l e z s = absurd (let y = z refl in omega arith)
  last_own zero rest h n (suc own) le l e z s = absurd (let y = (s (omega arith)).1 in omega arith)
  last_own (suc i) rest h n (suc zero) le l e z s =
      let same : suc i - 1 ≡ i = omega arith in
      let x = (item_there (own_pairs n) i (omega arith)).0 in
      let a = ap length (before_child_pair h n i x l (omega arith)) ∙ length-append (before_own n i) _ in
      let d = length-append (before_child n (suc i)) (before_gap rest (child_at n (suc i))) in
      let f : length (before_own n (suc i - 1)) ≡ length (before_own n i) = ap (λ j. length (before_own n j)) same in
      record {
        within = omega arith;
        none = λ e. absurd (omega arith);
        place = λ _. (omega arith);
        before = λ _. omega (arith, a, d, e, f);
        step = λ last s. here last (omega arith);
      }
    where
      here : (last : ℕ) → last ≡ 0 → 0 < get_or (suc i ∷ rest) last 0
      here zero e = omega arith
      here (suc last) e = absurd (omega arith)
  last_own (suc i) rest h n (suc (suc own)) le l e z s = absurd (let e = (s (omega arith)).0 in omega arith)

  last_below : (i : ℕ) (rest : List ℕ) (h : ℕ) (n : Node K V Z) (steps : ℕ) → i ≤ length (own_pairs n) → IsLevelled (suc h) n → IsLast rest (child_at n i) steps
      → 0 < steps → IsLast (i ∷ rest) n (suc steps)
  last_below i rest h n zero le l x k = absurd (omega arith)
  last_below i [] h n (suc steps) le l x k = absurd (omega arith)
  last_below i (j ∷ rest) h n (suc steps) le l x k =
      let e : length (children_of n) ≡ length (own_pairs n) + 1 = l.1 in
      let p = x.place k in
      let a = x.before k in
      let d = length-append (before_child n i) (before_gap (j ∷ rest) (child_at n i)) in
      let parts = below_one (take steps rest) p in
      record {
        within = omega (arith, x.within);
        none = λ e. absurd (omega arith);
        place = λ _. parts.0 (omega arith);
        before = λ _. let b = ap length parts.1 ∙ length-append (before_child n i) _ in omega (arith, a, b, d);
        step = there;
      }
    where
      there : (last : ℕ) → last + 1 ≡ suc (suc steps) → 0 < get_or (i ∷ j ∷ rest) last 0
      there zero s = absurd (omega arith)
      there (suc last) s = x.step last (omega arith)

      below_one : (path : List ℕ) → IsPlace (one_back (j ∷ path)) (child_at n i)
          → (i < length (children_of n) → IsPlace (i ∷ one_back (j ∷ path)) n)
          × (before_pair (i ∷ one_back (j ∷ path)) n ≡ before_child n i ++ before_pair (one_back (j ∷ path)) (child_at n i))
      below_one [] p = ((λ k. (k, p)), refl)
      below_one (m ∷ path) p = ((λ k. (k, p)), refl)

  -- the same by the steps of a path
  pub last_leaf : (gap : List ℕ) (n : Node K V Z) (own : ℕ) → gap ≡ get_or gap 0 0 ∷ [] → IsPath gap n → IsLevelled 0 n → (own ≡ 0 → get_or gap 0 0 ≡ 0)
      → (0 < own → (own ≡ 1) × (0 < get_or gap 0 0)) → IsLast gap n own
  last_leaf gap n own e p l z s = subst (λ g. IsLast g n own) (sym e) (last_own (get_or gap 0 0) [] 0 n own (subst (λ g. IsPath g n) e p).0 l refl z s)

  pub last_above : (gap : List ℕ) (n : Node K V Z) (own : ℕ) (s : IsStep gap n)
      → length (before_gap (slice_range gap 1 (length gap)) (child_at n (get_or gap 0 0))) ≡ 0 → (own ≡ 0 → get_or gap 0 0 ≡ 0)
      → (0 < own → (own ≡ 1) × (0 < get_or gap 0 0)) → IsLast gap n own
  last_above gap n own s e z o = subst (λ g. IsLast g n own) (sym s.path_is)
      (last_own _ _ (suc (length (slice_range gap 1 (length gap)) - 1)) n own s.le s.levels e z o)

  pub last_child : (gap : List ℕ) (n : Node K V Z) (steps : ℕ) (s : IsStep gap n) → IsLast (slice_range gap 1 (length gap)) (child_at n (get_or gap 0 0)) steps
      → 0 < steps → IsLast gap n (steps + 1)
  last_child gap n steps s x k = subst (λ g. IsLast g n (steps + 1)) (sym s.path_is) (rw (add-one steps) (last_below _ _ _ n steps s.le s.levels x k))

  -- all pairs of a leaf are before the end of it
  pub end_leaf : (n : Node K V Z) (i : ℕ) → IsLevelled 0 n → length (own_pairs n) ≤ i → length (before_child n i) ≡ length (pairs_of n)
  end_leaf n i l h = omega (arith, end_count n i [] h (leaf_gap n i l.1))

  -- a path that goes on by one step, to the gap of a leaf
  pub goes_leaf : (old : List ℕ) (i h : ℕ) (n : Node K V Z) → IsLevelled h n → length (children_of n) ≤ i → i ≤ length (own_pairs n)
      → GoesOn old (old ++ i ∷ []) n (length (before_child n i))
  goes_leaf old i zero n l c le = (i ∷ [], refl, ((le, tt), λ h m. one h m), ap length (append-nil (before_child n i)))
    where
      one : (h : ℕ) → IsLevelled h n → 1 ≡ h + 1
      one zero m = refl
      one (suc h) m = absurd (omega arith)
  goes_leaf old i (suc h) n l c le = absurd (omega arith)

  -- and one that goes on below a child
  pub goes_child : (old new : List ℕ) (i h : ℕ) (n : Node K V Z) (count : ℕ) → IsLevelled (suc h) n → i ≤ length (own_pairs n)
      → GoesOn (old ++ i ∷ []) new (child_at n i) count → GoesOn old new n (length (before_child n i) + count)
  goes_child old new i h n count l le g = (
    i ∷ g.0,
    g.1 ∙ append_assoc old (i ∷ []) g.0,
    ((le, g.2.0), λ k m. deep k m),
    length-append (before_child n i) (before_gap g.0 (child_at n i))
        ∙ ap (λ m. length (before_child n i) + m) g.3,
  )
    where
      deep : (k : ℕ) → IsLevelled k n → suc (length g.0) ≡ k + 1
      deep zero m =
          let f : length (children_of n) ≡ 0 = ap length (leaf_children n m.1) in
          absurd (omega arith)
      deep (suc k) m = let d = g.2.1 k (child_below k n i m le).1 in omega arith

  -- the same, with the pairs before the gap counted
  pub goes_here : (old new : List ℕ) (i h : ℕ) (n : Node K V Z) (count more : ℕ) → IsLevelled h n → length (children_of n) ≤ i → i ≤ length (own_pairs n)
      → new ≡ old ++ i ∷ [] → count ≡ length (before_child n i) + more → more ≡ 0 → GoesOn old new n count
  goes_here old new i h n count more l c le is e z = let g = goes_leaf old i h n l c le in (g.0, is ∙ g.1, g.2, omega (arith, g.3, e, z))

  pub goes_below : (old mid new : List ℕ) (i h : ℕ) (n c : Node K V Z) (below count : ℕ) → IsLevelled h n → i < length (children_of n) → mid ≡ old ++ i ∷ []
      → c ≡ child_at n i → GoesOn mid new c below → count ≡ length (before_child n i) + below → GoesOn old new n count
  goes_below old mid new i h n c below count l k m is g e =
      let s = step_levels h n i l k in
      let r = goes_child old new i s.0 n below (subst (λ k. IsLevelled k n) s.1 l) s.3
      (subst (λ d. GoesOn (old ++ i ∷ []) new d below) is (subst (λ m. GoesOn m new c below) m g)) in
      (r.0, r.1, r.2, r.3 ∙ sym e)

  -- the leaf that a path goes on to
  pub leaf_more : (i : ℕ) (path : List ℕ) (n : Node K V Z) → 0 < length path → leaf_at (i ∷ path) n ≡ leaf_at path (child_at n i)
  leaf_more i [] n k = absurd (omega arith)
  leaf_more i (j ∷ path) n k = refl

  pub ends_here : (old new : List ℕ) (i : ℕ) (n : Node K V Z) → new ≡ old ++ i ∷ [] → EndsIn old new n n
  ends_here old new i n e path f = ap (λ p. leaf_at p n) (same_cut old (i ∷ []) old path (sym e ∙ f) refl).1

  pub ends_below : (old mid new : List ℕ) (i count : ℕ) (n c leaf : Node K V Z) → mid ≡ old ++ i ∷ [] → c ≡ child_at n i → (h : ℕ) → IsLevelled h n
      → i < length (children_of n) → GoesOn mid new c count → EndsIn mid new c leaf → EndsIn old new n leaf
  ends_below old mid new i count n c leaf m is h l k g e path f =
      let q = g.0 in
      let s = step_levels h n i l k in
      let some : 0 < length q = (let long = g.2.1 s.0 (subst (IsLevelled s.0) (sym is) s.2) in omega arith) in
      let there : new ≡ old ++ i ∷ q = g.1 ∙ ap (λ p. p ++ q) m ∙ append_assoc old (i ∷ []) q in
      e q g.1 ∙ ap (leaf_at q) is ∙ sym (leaf_more i q n some) ∙ ap (λ p. leaf_at p n) (same_cut old (i ∷ q) old path (sym there ∙ f) refl).1

  -- a step down to a child: the path is one longer, and the child's levels one fewer
  pub step_down : (old mid : List ℕ) (i : ℕ) (n c : Node K V Z) (l : (h : ℕ) × IsLevelled h n × (length old + h < most_levels))
      → i < length (children_of n) → mid ≡ old ++ i ∷ [] → c ≡ child_at n i
      → ((h : ℕ) × IsLevelled h c × (length mid + h < most_levels)) × (length mid ≡ length old + 1) × (length mid < most_levels)
  step_down old mid i n c l k m is =
      let s = step_levels l.0 n i l.1 k in
      let p = ap length m ∙ length-append old (i ∷ []) in
      ((s.0, subst (IsLevelled s.0) (sym is) s.2, omega arith), p, omega arith)

  -- the gap after a pair, on the way down to it
  pub next_before : (h : ℕ) (n : Node K V Z) (i : ℕ) → IsLevelled h n → i < length (own_pairs n) → length (before_child n (i + 1)) ≡ length (before_own n i) + 1
  next_before h n i l k = let x = (item_there (own_pairs n) i k).0 in ap (λ j. length (before_child n j)) (add-one i)
      ∙ ap length (before_child_pair h n i x l k) ∙ length-append (before_own n i) _

  -- the gap after a pair
  zeros_gap : (h : ℕ) (n : Node K V Z) → IsLevelled h n → IsPath (zeros (suc h)) n × (before_gap (zeros (suc h)) n ≡ [])
  zeros_gap zero n l = ((omega arith, tt), refl)
  zeros_gap (suc h) n l = let r = zeros_gap h (child_at n 0) (child_below h n 0 l (omega arith)).1 in ((omega arith, r.0), r.1)

  pub record IsAfter (place path : List ℕ) (n : Node K V Z) : Type 0 where
    pub way : IsPath path n
    pub count : length (before_gap path n) ≡ length (before_pair place n) + 1

  zeros_after : (k h i : ℕ) (n : Node K V Z) → IsLevelled h n → k ≡ h → i < length (own_pairs n) → IsAfter (i ∷ []) (suc i ∷ zeros k) n
  zeros_after zero h i n l e p =
      let x = (item_there (own_pairs n) i p).0 in
      let a = ap length (before_child_pair h n i x l p) ∙ length-append (before_own n i) _ in
      let b = length-append (before_child n (suc i)) [] in
      record { way = (omega arith, tt); count = omega (arith, a, b) }
  zeros_after (suc k) zero i n l e p = absurd (omega arith)
  zeros_after (suc k) (suc h) i n l e p =
      let x = (item_there (own_pairs n) i p).0 in
      let same : k ≡ h = omega arith in
      let z = zeros_gap k (child_at n (suc i)) (subst (λ m. IsLevelled m (child_at n (suc i))) (sym same) (child_below h n (suc i) l (omega arith)).1) in
      let a = ap length (before_child_pair (suc h) n i x l p) ∙ length-append (before_own n i) _ in
      let b = length-append (before_child n (suc i)) (before_gap (zeros (suc k)) (child_at n (suc i))) in
      let d = ap length z.1 in
      record { way = (omega arith, z.0); count = omega (arith, a, b, d) }

  pub pair_after_gap : (gap : List ℕ) (last k h : ℕ) (n : Node K V Z) → IsLevelled h n → length gap ≡ h + 1 → IsPath gap n → k + last + 1 ≡ length gap
      → IsPlace (take (suc last) gap) n → IsAfter (take (suc last) gap) (take last gap ++ (get_or gap last 0 + 1) ∷ zeros k) n
  pair_after_gap [] last k h n l e w c p = absurd (omega arith)
  pair_after_gap (i ∷ rest) zero k h n l e w c p = rw (add-one i) (zeros_after k h i n l (omega arith) p)
  pair_after_gap (i ∷ []) (suc last) k h n l e w c p = absurd (omega arith)
  pair_after_gap (i ∷ j ∷ rest) (suc last) k zero n l e w c p = absurd (omega arith)
  pair_after_gap (i ∷ j ∷ rest) (suc last) k (suc h) n l e w c p =
      let r = pair_after_gap (j ∷ rest) last k h (child_at n i) (child_below h n i l w.0).1 (omega arith) w.1 (omega arith) p.1 in
      record {
        way = (w.0, r.way);
        count = length-append (before_child n i) _ ∙ ap (λ m. length (before_child n i) + m) r.count
            ∙ let a = length-append (before_child n i) (before_pair (take (suc last) (j ∷ rest)) (child_at n i)) in omega (arith, a);
      }

  -- a step of a path is at most what a node holds
  pub step_small : (gap : List ℕ) (i h : ℕ) (n : Node K V Z) → IsLevelled h n → length gap ≡ h + 1 → IsPath gap n → i < length gap → get_or gap i 0 ≤ capacity
  step_small [] i h n l e w k = absurd (omega arith)
  step_small (j ∷ gap) zero zero n l e w k = omega (arith, l.0, w.0)
  step_small (j ∷ gap) zero (suc h) n l e w k = omega (arith, l.0, w.0)
  step_small (j ∷ gap) (suc i) zero n l e w k = absurd (omega arith)
  step_small (j ∷ gap) (suc i) (suc h) n l e w k = step_small gap i h (child_at n j) (child_below h n j l w.0).1 (omega arith) w.1 (omega arith)

  -- the one step of a short path to a pair
  pub end_step : (place : List ℕ) (n : Node K V Z) → IsPlace place n → length place ≤ 1 → place ≡ get_or place 0 0 ∷ []
  end_step [] n p h = absurd p
  end_step (i ∷ []) n p h = refl
  end_step (i ∷ j ∷ place) n p h = absurd (omega arith)

  -- the gap after the pair that is after a gap
  pub record IsStepped (m : Map K V Z) (gap next : List ℕ) : Type 0 where
    pub slot : IsGapIn m next
    pub count : length (before_gap_in m next) ≡ length (before_gap_in m gap) + 1

  next_slot : (h : ℕ) (n : Node K V Z) (gap next : List ℕ) (last steps : ℕ) → IsLevelled h n → IsLeafGap gap n → IsNext gap n steps → last + 1 ≡ steps
      → next ≡ take last gap ++ (get_or gap last 0 + 1) ∷ zeros (length gap - length (take last gap) - 1) → IsStepped (Some n) gap next
  next_slot h n gap next last steps l g x e is =
      let s : steps ≡ suc last = sym e ∙ add-one last in
      let y = subst (IsNext gap n) s x in
      let t = length_take last gap (omega arith) in
      let r = pair_after_gap gap last (length gap - last - 1) h n l (g.1 h l) g.0 (omega arith) (y.place (omega arith)) in
      let same : next ≡ take last gap ++ (get_or gap last 0 + 1) ∷ zeros (length gap - last - 1) = is
      ∙ ap (λ k. take last gap ++ (get_or gap last 0 + 1) ∷ zeros (length gap - k - 1)) t in
      let z = length_zeros (length gap - last - 1) in
      let long : length next ≡ length gap = ap length same ∙ length-append (take last gap) _ ∙ omega arith in
      record {
        slot = (subst (λ p. IsPath p n) (sym same) r.way, λ k m. long ∙ g.1 k m);
        count = ap (λ p. length (before_gap p n)) same ∙ r.count ∙ ap (λ k. k + 1) (y.before (omega arith));
      }

  pub stepped_after : (m : Map K V Z) (n : Node K V Z) (gap next : List ℕ) (last steps : ℕ) → m ≡ Some n → IsSoundMap m → IsGapIn m gap → IsNext gap n steps
      → last + 1 ≡ steps
      → next ≡ take last gap ++ (get_or gap last 0 + 1) ∷ zeros (length gap - length (take last gap) - 1) → IsStepped m gap next
  stepped_after None n gap next last steps is sound g x e f = absurd cc
  stepped_after (Some root) n gap next last steps is sound g x e f =
      let same : n ≡ root = cc in
      next_slot sound.0 root gap next last steps sound.2.1 g (subst (λ d. IsNext gap d steps) same x) e f

  -- a step of a gap's path is small
  pub gap_small : (m : Map K V Z) (gap : List ℕ) (i : ℕ) → IsSoundMap m → IsGapIn m gap → i < length gap → get_or gap i 0 ≤ capacity
  gap_small None gap i sound g k = absurd (let e = ap length g in omega arith)
  gap_small (Some root) gap i sound g k = step_small gap i sound.0 root sound.2.1 (g.1 sound.0 sound.2.1) g.0 k

  -- the pair before a gap, and the gap before it
  pub place_back : (n : Node K V Z) (gap place : List ℕ) (last steps : ℕ) → IsLast gap n steps → last + 1 ≡ steps
      → place ≡ take last gap ++ (get_or gap last 0 - 1) ∷ [] → IsPlace place n × (length (before_pair place n) + 1 ≡ length (before_gap gap n))
  place_back n gap place last steps x e is =
      let s : steps ≡ suc last = sym e ∙ add-one last in
      let y = subst (IsLast gap n) s x in
      let same : one_back (take (suc last) gap) ≡ place = back_is gap last (omega arith) ∙ sym is in (
        subst (λ p. IsPlace p n) same (y.place (omega arith)),
        subst (λ p. length (before_pair p n) + 1 ≡ length (before_gap gap n)) same
            (y.before (omega arith)),
      )

  pub record IsBacked (m : Map K V Z) (gap path next : List ℕ) : Type 0 where
    pub place : IsPlaceIn m path
    pub before : length (before_pair_in m path) + 1 ≡ length (before_gap_in m gap)
    pub slot : IsGapIn m next
    pub count : length (before_gap_in m next) + 1 ≡ length (before_gap_in m gap)

  some_before : (gap : List ℕ) (n : Node K V Z) (steps : ℕ) → IsLast gap n steps → 0 < length (before_gap gap n) → 0 < steps
  some_before gap n zero x k = absurd (let e = x.none refl in omega arith)
  some_before gap n (suc steps) x k = omega arith

  pub some_last : (m : Map K V Z) (n : Node K V Z) (gap : List ℕ) (steps : ℕ) → m ≡ Some n → IsLast gap n steps → 0 < length (before_gap_in m gap) → 0 < steps
  some_last None n gap steps is x k = absurd cc
  some_last (Some root) n gap steps is x k = let same : n ≡ root = cc in some_before gap root steps (subst (λ d. IsLast gap d steps) same x) k

  pub stepped_before : (m : Map K V Z) (n : Node K V Z) (gap place next : List ℕ) (last steps : ℕ) → m ≡ Some n → IsLast gap n steps → last + 1 ≡ steps
      → place ≡ take last gap ++ (get_or gap last 0 - 1) ∷ [] → GoesOn [] next n (length (before_pair place n)) → IsBacked m gap place next
  stepped_before None n gap place next last steps is x e p g = absurd cc
  stepped_before (Some root) n gap place next last steps is x e p g =
      let same : n ≡ root = cc in
      let b = place_back n gap place last steps x e p in
      let f = b.1 in
      let c : length (before_gap next n) + 1 ≡ length (before_gap gap n) = ap (λ q. length (before_gap q n) + 1) g.1 ∙ omega (arith, g.3, f) in
      subst (λ d. IsBacked (Some d) gap place next) same (record { place = b.0; before = b.1; slot = subst (λ q. IsLeafGap q n) (sym g.1) g.2; count = c })
