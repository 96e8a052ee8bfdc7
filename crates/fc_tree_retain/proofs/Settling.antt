-- A node of which two children were rebalanced, and one of which all were.
use Rattle.std.proofs.Common.{◌≡◌, ℕ, suc, zero, ◌+◌, ◌<◌, ◌≤◌, List, [], ◌∷◌, ◌++◌, length, get_or, take, drop, refl, sym, ap, subst, ◌∙◌, arith, append_assoc}
use Rattle.std.proofs.Common.{inl, inr}
use Rattle.std.specs.Prelude.{◌⊎◌, slice_set}
use Rattle.std.specs.List.{AllByRecursion}
use Rattle.std.proofs.lemmas.List.{length-append, length-drop, drop-set-lt}
use Rattle.fc_base.specs.Sizes.{capacity, min_len}
use Rattle.fc_tree_node.specs.declared.node.Node.{Node}
use Rattle.fc_tree_node.specs.Node.{own_pairs, children_of, child_at, pairs_of, IsLeaf, IsInner, IsSound}
use Rattle.fc_tree_node.proofs.Lists.{length_take, length_set, all_both}
use Rattle.fc_tree_node.proofs.Gaps.{drop_all}
use Rattle.fc_tree_node.proofs.Siblings.{one_at, two_at}
use Rattle.fc_tree_node.proofs.Lent.{lent_is, replaced_same, IsReplaced}
use Rattle.fc_tree_retain.specs.Unbalanced.{IsUnbalanced}
use Rattle.fc_tree_retain.specs.Rebalancing.{IsUnderfull, IsSeam, IsMet, IsSeamRebalanced, IsJoined, together}
use Rattle.fc_tree_retain.proofs.Lists.{at_place, take_place, drop_place, set_place}
use Rattle.fc_tree_retain.proofs.Levels.{underfull_sound, levelled_underfull, unbalanced_child}

module _ {K V Z : Type 0} where
  -- neither of the two was short
  pub whole_seam_rebalanced : (h i : ℕ) (n : Node K V Z) → IsSeam h n i → min_len ≤ length (own_pairs (child_at n i))
      → min_len ≤ length (own_pairs (child_at n (i + 1))) → IsSeamRebalanced h i (i + 1) n n
  whole_seam_rebalanced h i n s l r =
      inr (
        refl,
        record {
          left = child_at n i;
          right = child_at n (i + 1);
          children = two_at (children_of n) i n (omega arith);
          own = refl;
          sound =
              (underfull_sound h _ l s.left, underfull_sound h _ r s.right);
        },
      )

  around : (cs : List (Node K V Z)) (i : ℕ) → i + 1 < length cs → (length (take i cs) ≡ i) × (length (drop (suc (suc i)) cs) + (i + 2) ≡ length cs)
  around cs i lt = let d = length-drop (suc (suc i)) cs in (length_take i cs (omega arith), omega arith)

  -- the child where the children of two meet
  record IsMetChild (h place seam : ℕ) (mid : Node K V Z) : Type 0 where
    pub bounds : place < length (children_of mid)
    pub inner : IsInner mid
    pub met : IsMet h seam (child_at mid place)

  met_child : (h i place seam last : ℕ) (old mid : Node K V Z) → IsSeam h old i → IsJoined h i place seam last old mid → IsMetChild h place seam mid
  met_child h i place seam last old mid s (inl (p, q, m)) =
      let a = around (children_of old) i (omega arith) in
      let cl = ap length m.children ∙ length-append (take i (children_of old)) (m.whole ∷ drop (suc (suc i)) (children_of old)) in
      let is : child_at mid i ≡ m.whole = ap (λ cs. get_or cs i mid) m.children ∙ at_place (take i (children_of old)) _ m.whole mid i a.0 in
      subst (λ j. IsMetChild h j seam mid) (sym p) (record { bounds = omega arith; inner = m.inner; met = subst (IsMet h seam) (sym is) m.met })
  met_child h i place seam last old mid s (inr (q, m)) = go m.children
    where
      k : length (children_of old) ≡ length (own_pairs old) + 1
      k = s.inner

      lt : i < length (own_pairs old)
      lt = s.in_bounds

      a : (length (take i (children_of old)) ≡ i) × (length (drop (suc (suc i)) (children_of old)) + (i + 2) ≡ length (children_of old))
      a = around (children_of old) i (let k' = k in let lt' = lt in omega arith)

      D : List (Node K V Z)
      D = drop (suc (suc i)) (children_of old)

      go : ((place ≡ i) × (children_of mid ≡ take i (children_of old) ++ m.grown ∷ m.other ∷ D))
          ⊎ ((place ≡ i + 1) × (children_of mid ≡ take i (children_of old) ++ m.other ∷ m.grown ∷ D)) → IsMetChild h place seam mid
      go (inl (p, e)) =
          let a' = a in
          let t₀ = a'.0 in
          let cl = ap length e ∙ length-append (take i (children_of old)) (m.grown ∷ m.other ∷ D) in
          let is : child_at mid i ≡ m.grown = ap (λ cs. get_or cs i mid) e ∙ at_place (take i (children_of old)) (m.other ∷ D) m.grown mid i t₀ in
          subst (λ j. IsMetChild h j seam mid) (sym p) (record { bounds = omega arith; inner = m.inner; met = subst (IsMet h seam) (sym is) m.met })
      go (inr (p, e)) =
          let a' = a in
          let t₀ = a'.0 in
          let cl = ap length e ∙ length-append (take i (children_of old)) (m.other ∷ m.grown ∷ D) in
          let is : child_at mid (i + 1) ≡ m.grown = ap (λ cs. get_or cs (i + 1) mid)
          (e ∙ sym (append_assoc (take i (children_of old)) (m.other ∷ []) (m.grown ∷ D)))
          ∙ at_place (take i (children_of old) ++ m.other ∷ []) D m.grown mid (i + 1)
          (length-append (take i (children_of old)) (m.other ∷ []) ∙ ap (λ j. j + 1) t₀) in
          subst (λ j. IsMetChild h j seam mid) (sym p) (record { bounds = omega arith; inner = m.inner; met = subst (IsMet h seam) (sym is) m.met })

  -- a child that is no leaf
  record IsMetAbove (h seam : ℕ) (c : Node K V Z) : Type 0 where
    pub below : ℕ
    pub height : h ≡ suc below
    pub met : IsMet (suc below) seam c

  met_above : (h seam : ℕ) (c : Node K V Z) → (IsLeaf c → ⊥) → IsMet h seam c → IsMetAbove h seam c
  met_above zero seam c f m = absurd (f m.1)
  met_above (suc h) seam c f m = record { below = h; height = refl; met = m }

  -- the child where they meet, lent out
  pub record IsMetLent (h place seam : ℕ) (mid d : Node K V Z) : Type 0 where
    pub bounds : place < length (children_of mid)
    pub inner : IsInner mid
    pub is : d ≡ child_at mid place
    pub below : ℕ
    pub height : h ≡ suc below
    pub met : IsMet (suc below) seam d

  pub met_lent : (h i place seam last : ℕ) (old mid d : Node K V Z) → IsSeam h old i → IsJoined h i place seam last old mid
      → (IsLeaf (child_at mid place) → ⊥) → d ≡ get_or (children_of mid) place d → IsMetLent h place seam mid d
  met_lent h i place seam last old mid d s j up q =
      let x = met_child h i place seam last old mid s j in
      let lt = x.bounds in
      let a = met_above h seam (child_at mid place) up x.met in
      let is = lent_is mid place d x.inner (omega arith) q in
      record { bounds = lt; inner = x.inner; is = is; below = a.below; height = a.height; met = subst (IsMet (suc a.below) seam) (sym is) a.met }

  -- once those that meet are rebalanced, the child is whole but for how many pairs it has
  pub record IsMetLeft (h : ℕ) (c c' : Node K V Z) : Type 0 where
    pub underfull : IsUnderfull h c'
    pub kept : length (own_pairs c) ≤ length (own_pairs c') + 1

  pub met_left : (g seam j : ℕ) (c c' : Node K V Z) → IsMet (suc g) seam c → IsSeamRebalanced g seam j c c' → IsMetLeft (suc g) c c'
  met_left g seam j c c' (s, after, one) (inl (q, o)) = go (length (own_pairs c')) refl
    where
      go : (k : ℕ) → length (own_pairs c') ≡ k → IsMetLeft (suc g) c c'
      go zero z =
          let i0 : seam ≡ 0 = omega arith in
          let e : children_of c' ≡ o.whole ∷ [] = o.children ∙ ap (λ n. take n (children_of c) ++ o.whole ∷ drop (suc (suc n)) (children_of c)) i0
          ∙ ap (λ ds. o.whole ∷ ds) (drop_all (children_of c) 2 (omega arith)) in
          let n = ap length e in
          let is : child_at c' 0 ≡ o.whole = ap (λ cs. get_or cs 0 c') e in
          record { underfull = (omega arith, omega arith, inr (z, subst (IsUnderfull g) (sym is) o.underfull)); kept = omega arith }
      go (suc m) z =
          let a = around (children_of c) seam (omega arith) in
          let n = ap length o.children ∙ length-append (take seam (children_of c)) (o.whole ∷ drop (suc (suc seam)) (children_of c)) in
          let w = o.sound (one (omega arith)) in
          record {
            underfull = (
              omega arith,
              omega arith,
              inl (subst (AllByRecursion (IsSound g)) (sym o.children)
                  (all_both (IsSound g) (take seam (children_of c)) _ s.before (w, after))),
            );
            kept = omega arith;
          }
  met_left g seam j c c' (s, after, one) (inr (q, t)) =
      let a = around (children_of c) seam (omega arith) in
      let n = ap length t.children ∙ length-append (take seam (children_of c)) (t.left ∷ t.right ∷ drop (suc (suc seam)) (children_of c)) in
      record {
        underfull = (
          omega arith,
          omega arith,
          inl (subst (AllByRecursion (IsSound g)) (sym t.children)
              (all_both (IsSound g) (take seam (children_of c)) _ s.before (t.sound.0, (t.sound.1, after)))),
        );
        kept = omega arith;
      }

  -- so the two are rebalanced
  pub joined_seam_rebalanced : (h i place seam last : ℕ) (old mid new c' : Node K V Z) → IsSeam h old i → IsJoined h i place seam last old mid
      → children_of new ≡ slice_set (children_of mid) place c' → length (own_pairs new) ≡ length (own_pairs mid) → IsMetLeft h (child_at mid place) c'
      → IsSeamRebalanced h i last old new
  joined_seam_rebalanced h i place seam last old mid new c' s (inl (p, q, m)) e o l =
      let a = around (children_of old) i (omega arith) in
      let D = drop (suc (suc i)) (children_of old) in
      let is : child_at mid place ≡ m.whole = ap (child_at mid) p ∙ ap (λ cs. get_or cs i mid) m.children
      ∙ at_place (take i (children_of old)) D m.whole mid i a.0 in
      let cs : children_of new ≡ take i (children_of old) ++ c' ∷ D = e ∙ ap (λ j. slice_set (children_of mid) j c') p
      ∙ ap (λ xs. slice_set xs i c') m.children ∙ set_place (take i (children_of old)) D m.whole c' i a.0 in
      let wl : length (own_pairs (child_at mid place)) ≡ length (own_pairs m.whole) = ap (λ x. length (own_pairs x)) is in
      inl (
        q,
        record {
          whole = c';
          children = cs;
          own = omega arith;
          underfull = l.underfull;
          sound = λ u. underfull_sound h c' (enough u (omega arith)) l.underfull;
        },
      )
    where
      enough : IsSound h (child_at old i) ⊎ IsSound h (child_at old (i + 1)) → together old i ≤ length (own_pairs c') + 1 → min_len ≤ length (own_pairs c')
      enough (inl a) t = omega arith
      enough (inr a) t = omega arith
  joined_seam_rebalanced h i place seam last old mid new c' s (inr (q, m)) e o l = go m.children
    where
      D : List (Node K V Z)
      D = drop (suc (suc i)) (children_of old)

      front : length (take i (children_of old)) ≡ i
      front = length_take i (children_of old) (omega arith)

      enough : child_at mid place ≡ m.grown → IsSound h c'
      enough is =
          let wl : length (own_pairs (child_at mid place)) ≡ length (own_pairs m.grown) = ap (λ x. length (own_pairs x)) is in
          underfull_sound h c' (omega arith) l.underfull

      go : ((place ≡ i) × (children_of mid ≡ take i (children_of old) ++ m.grown ∷ m.other ∷ D))
          ⊎ ((place ≡ i + 1) × (children_of mid ≡ take i (children_of old) ++ m.other ∷ m.grown ∷ D)) → IsSeamRebalanced h i last old new
      go (inl (p, f)) =
          let is : child_at mid place ≡ m.grown = ap (child_at mid) p ∙ ap (λ cs. get_or cs i mid) f
          ∙ at_place (take i (children_of old)) (m.other ∷ D) m.grown mid i front in
          inr (
            q,
            record {
              left = c';
              right = m.other;
              children = e ∙ ap (λ j. slice_set (children_of mid) j c') p ∙ ap (λ xs. slice_set xs i c') f
                  ∙ set_place (take i (children_of old)) (m.other ∷ D) m.grown c' i front;
              own = o ∙ m.own;
              sound = (enough is, m.sound);
            },
          )
      go (inr (p, f)) =
          let f' : children_of mid ≡ (take i (children_of old) ++ m.other ∷ []) ++ m.grown ∷ D = f
          ∙ sym (append_assoc (take i (children_of old)) (m.other ∷ []) (m.grown ∷ D)) in
          let z : length (take i (children_of old) ++ m.other ∷ []) ≡ i + 1 = length-append (take i (children_of old)) (m.other ∷ []) ∙ ap (λ j. j + 1) front in
          let is : child_at mid place ≡ m.grown = ap (child_at mid) p ∙ ap (λ cs. get_or cs (i + 1) mid) f'
          ∙ at_place (take i (children_of old) ++ m.other ∷ []) D m.grown mid (i + 1) z in
          inr (
            q,
            record {
              left = m.other;
              right = c';
              children = e ∙ ap (λ j. slice_set (children_of mid) j c') p ∙ ap (λ xs. slice_set xs (i + 1) c') f'
                  ∙ set_place (take i (children_of old) ++ m.other ∷ []) D m.grown c' (i + 1) z
                  ∙ append_assoc (take i (children_of old)) (m.other ∷ []) (c' ∷ D);
              own = o ∙ m.own;
              sound = (m.sound, enough is);
            },
          )

  -- the children before a place are sound, the one there may hold few pairs where it is the first, and those after it are as Q says
  pub record IsRebalancedTo (Q : List (Node K V Z) → Type 0) (h at : ℕ) (n : Node K V Z) : Type 0 where
    pub fits : length (own_pairs n) ≤ capacity
    pub before : AllByRecursion (IsSound h) (take at (children_of n))
    pub underfull : IsUnderfull h (child_at n at)
    pub sound : 0 < at → IsSound h (child_at n at)
    pub after : Q (drop (suc at) (children_of n))

  pub record IsRebalancing (old now : Node K V Z) (at left : ℕ) : Type 0 where
    pub pairs : pairs_of now ≡ pairs_of old
    pub left_is : length (own_pairs now) ≡ at + left
    pub inner : IsInner now
    pub levels : (h : ℕ) → IsUnbalanced (suc h) old → IsRebalancedTo (AllByRecursion (IsUnbalanced h)) h at now

  pub all_from : (P : Node K V Z → Type 0) (cs : List (Node K V Z)) (i : ℕ) → AllByRecursion P cs → AllByRecursion P (drop i cs)
  all_from P cs zero a = a
  all_from P [] (suc i) a = tt
  all_from P (c ∷ cs) (suc i) a = all_from P cs i a.1

  pub rebalancing_start : (old now d c : Node K V Z) (left : ℕ) → IsInner old → IsReplaced old now 0 c → d ≡ child_at old 0 → pairs_of c ≡ pairs_of d
      → ((h : ℕ) → IsUnbalanced h d → IsUnderfull h c) → length (own_pairs now) ≡ left → IsRebalancing old now 0 left
  rebalancing_start old now d c left inner m is p th e =
      let k : length (children_of old) ≡ length (own_pairs old) + 1 = inner in
      let n : length (children_of now) ≡ length (children_of old) = ap length m.child ∙ length_set (children_of old) 0 c in
      let o : length (own_pairs now) ≡ length (own_pairs old) = ap length m.same in
      record {
        pairs = replaced_same m inner (omega arith) (p ∙ ap pairs_of is);
        left_is = omega arith;
        inner = omega arith;
        levels = λ h l. let fits = l.0 in record {
          fits = omega arith;
          before = tt;
          underfull = subst (IsUnderfull h) (sym (m.here (omega arith)))
              (th h (subst (IsUnbalanced h) (sym is) (unbalanced_child h old 0 l (omega arith))));
          sound = λ z. absurd (omega arith);
          after = subst (AllByRecursion (IsUnbalanced h)) (sym m.rest)
              (all_from (IsUnbalanced h) (children_of old) 1 l.2);
        };
      }

  -- the next child rebalanced
  pub record IsNextRebalanced (Q : List (Node K V Z) → Type 0) (h at : ℕ) (mid : Node K V Z) : Type 0 where
    pub seam : IsSeam h mid at
    pub sound : 0 < at → IsSound h (child_at mid at)
    pub after : Q (drop (suc (suc at)) (children_of mid))

  take_next : (xs : List (Node K V Z)) (i : ℕ) (x : Node K V Z) → take i (slice_set xs (suc i) x) ≡ take i xs
  take_next [] i x = refl
  take_next (y ∷ xs) zero x = refl
  take_next (y ∷ xs) (suc i) x = ap (λ zs. y ∷ zs) (take_next xs i x)

  get_next : (xs : List (Node K V Z)) (i : ℕ) (x d e : Node K V Z) → i < length xs → get_or (slice_set xs (suc i) x) i d ≡ get_or xs i e
  get_next [] i x d e h = absurd (omega arith)
  get_next (y ∷ xs) zero x d e h = refl
  get_next (y ∷ xs) (suc i) x d e h = get_next xs i x d e (omega arith)

  head_of : (h : ℕ) (cs : List (Node K V Z)) (d : Node K V Z) → 0 < length cs → AllByRecursion (IsUnbalanced h) cs → IsUnbalanced h (get_or cs 0 d)
  head_of h [] d lt a = absurd (omega arith)
  head_of h (c ∷ cs) d lt a = a.0

  pub next_unbalanced : (h at : ℕ) (now : Node K V Z) → IsInner now → at < length (own_pairs now) → IsRebalancedTo (AllByRecursion (IsUnbalanced h)) h at now
      → IsUnbalanced h (child_at now (at + 1))
  next_unbalanced h at now inner lt g = go (children_of now) at (let k : length (children_of now) ≡ length (own_pairs now) + 1 = inner in omega arith) g.after
    where
      go : (cs : List (Node K V Z)) (i : ℕ) → i + 1 < length cs → AllByRecursion (IsUnbalanced h) (drop (suc i) cs) → IsUnbalanced h (get_or cs (i + 1) now)
      go [] i lt a = absurd (omega arith)
      go (c ∷ cs) zero lt a = head_of h cs now (omega arith) a
      go (c ∷ cs) (suc i) lt a = let e : suc i + 1 ≡ suc (i + 1) = omega arith in
          subst (λ j. IsUnbalanced h (get_or (c ∷ cs) j now)) (sym e) (go cs i (omega arith) a)

  drop_one : (i : ℕ) (xs : List (Node K V Z)) → drop (suc (suc i)) xs ≡ drop 1 (drop (suc i) xs)
  drop_one i [] = refl
  drop_one zero (x ∷ xs) = refl
  drop_one (suc i) (x ∷ xs) = drop_one i xs

  pub next_rebalanced : (h at : ℕ) (now mid d c : Node K V Z) → IsInner now → at < length (own_pairs now)
      → IsRebalancedTo (AllByRecursion (IsUnbalanced h)) h at now → d ≡ child_at now (at + 1)
      → IsReplaced now mid (at + 1) c → ((g : ℕ) → IsUnbalanced g d → IsUnderfull g c) → IsNextRebalanced (AllByRecursion (IsUnbalanced h)) h at mid
  next_rebalanced h at now mid d c inner lt g is m th =
      let k : length (children_of now) ≡ length (own_pairs now) + 1 = inner in
      let one : at + 1 ≡ suc at = omega arith in
      let e : children_of mid ≡ slice_set (children_of now) (suc at) c = m.child ∙ ap (λ j. slice_set (children_of now) j c) one in
      let n : length (children_of mid) ≡ length (children_of now) = ap length e ∙ length_set (children_of now) (suc at) c in
      let o : length (own_pairs mid) ≡ length (own_pairs now) = ap length m.same in
      let fits = g.fits in
      let here : child_at mid at ≡ child_at now at = ap (λ cs. get_or cs at mid) e ∙ get_next (children_of now) at c mid now (omega arith) in
      let there : child_at mid (at + 1) ≡ c = m.here (omega arith) in
      record {
        seam = record {
          in_bounds = omega arith;
          fits = omega arith;
          inner = omega arith;
          before = subst (AllByRecursion (IsSound h)) (sym (ap (take at) e ∙ take_next (children_of now) at c)) g.before;
          left = subst (IsUnderfull h) (sym here) g.underfull;
          right = subst (IsUnderfull h) (sym there) (th h (subst (IsUnbalanced h) (sym is) (next_unbalanced h at now inner lt g)));
        };
        sound = λ z. subst (IsSound h) (sym here) (g.sound z);
        after = subst (AllByRecursion (IsUnbalanced h))
            (sym (ap (drop (suc (suc at))) e ∙ drop-set-lt (suc (suc at)) (children_of now) (suc at) c (omega arith) ∙ drop_one at (children_of now)))
            (all_from (IsUnbalanced h) (drop (suc at) (children_of now)) 1 g.after);
      }

  -- and the two rebalanced
  pub seam_rebalanced_to : (Q : List (Node K V Z) → Type 0) (h at j : ℕ) (mid new : Node K V Z) → IsNextRebalanced Q h at mid → IsSeamRebalanced h at j mid new
      → IsRebalancedTo Q h j new
  seam_rebalanced_to Q h at j mid new x (inl (q, o)) =
      let s = x.seam in
      let fits = s.fits in
      let a = around (children_of mid) at (omega arith) in
      let A = take at (children_of mid) in
      let D = drop (suc (suc at)) (children_of mid) in
      let is : child_at new at ≡ o.whole = ap (λ cs. get_or cs at new) o.children ∙ at_place A D o.whole new at a.0 in
      subst (λ i. IsRebalancedTo Q h i new) (sym q) (record {
        fits = omega arith;
        before = subst (AllByRecursion (IsSound h)) (sym (ap (take at) o.children ∙ take_place A (o.whole ∷ D) at a.0)) s.before;
        underfull = subst (IsUnderfull h) (sym is) o.underfull;
        sound = λ z. subst (IsSound h) (sym is) (o.sound (inl (x.sound z)));
        after = subst Q (sym (ap (drop (suc at)) (o.children ∙ sym (append_assoc A (o.whole ∷ []) D))
            ∙ drop_place (A ++ o.whole ∷ []) D (suc at) (let t = length-append A (o.whole ∷ []) in omega arith))) x.after;
      })
  seam_rebalanced_to Q h at j mid new x (inr (q, o)) =
      let s = x.seam in
      let fits = s.fits in
      let a = around (children_of mid) at (omega arith) in
      let t₀ = a.0 in
      let A = take at (children_of mid) in
      let D = drop (suc (suc at)) (children_of mid) in
      let e : children_of new ≡ (A ++ o.left ∷ []) ++ o.right ∷ D = o.children ∙ sym (append_assoc A (o.left ∷ []) (o.right ∷ D)) in
      let z : length (A ++ o.left ∷ []) ≡ at + 1 = length-append A (o.left ∷ []) ∙ ap (λ i. i + 1) t₀ in
      let is : child_at new (at + 1) ≡ o.right = ap (λ cs. get_or cs (at + 1) new) e ∙ at_place (A ++ o.left ∷ []) D o.right new (at + 1) z in
      subst (λ i. IsRebalancedTo Q h i new) (sym q) (record {
        fits = omega arith;
        before = subst (AllByRecursion (IsSound h)) (sym (ap (take (at + 1)) e ∙ take_place (A ++ o.left ∷ []) (o.right ∷ D) (at + 1) z))
            (all_both (IsSound h) A (o.left ∷ []) s.before (o.sound.0, tt));
        underfull = subst (IsUnderfull h) (sym is) (levelled_underfull h o.right o.sound.1.1);
        sound = λ _. subst (IsSound h) (sym is) o.sound.1;
        after = subst Q (sym (ap (drop (suc (at + 1))) (e ∙ sym (append_assoc (A ++ o.left ∷ []) (o.right ∷ []) D))
            ∙ drop_place ((A ++ o.left ∷ []) ++ o.right ∷ []) D (suc (at + 1)) (let t = length-append (A ++ o.left ∷ []) (o.right ∷ []) in omega arith)))
            x.after;
      })

  pub seam_sizes : (h at j : ℕ) (mid new : Node K V Z) → IsSeam h mid at → IsSeamRebalanced h at j mid new
      → (length (own_pairs new) + (at + 1) ≡ length (own_pairs mid) + j) × IsInner new
  seam_sizes h at j mid new s (inl (q, o)) =
      let a = around (children_of mid) at (omega arith) in
      let n = ap length o.children ∙ length-append (take at (children_of mid)) (o.whole ∷ drop (suc (suc at)) (children_of mid)) in
      (omega arith, omega arith)
  seam_sizes h at j mid new s (inr (q, o)) =
      let a = around (children_of mid) at (omega arith) in
      let n = ap length o.children ∙ length-append (take at (children_of mid)) (o.left ∷ o.right ∷ drop (suc (suc at)) (children_of mid)) in
      (omega arith, omega arith)

  pub rebalancing_more : (old now mid new d c : Node K V Z) (at left left' j g : ℕ) → IsRebalancing old now at left → left ≡ left' + 1
      → IsUnbalanced (suc g) old
      → d ≡ child_at now (at + 1) → IsReplaced now mid (at + 1) c → pairs_of c ≡ pairs_of d → ((h : ℕ) → IsUnbalanced h d → IsUnderfull h c)
      → pairs_of new ≡ pairs_of mid → ((h : ℕ) → IsSeam h mid at → IsSeamRebalanced h at j mid new) → IsRebalancing old new j left'
  rebalancing_more old now mid new d c at left left' j g x e l is m p th np st =
      let o : length (own_pairs mid) ≡ length (own_pairs now) = ap length m.same in
      let seam = (next_rebalanced g at now mid d c x.inner (omega arith) (x.levels g l) is m th).seam in
      let z = seam_sizes g at j mid new seam (st g seam) in
      record {
        pairs = np ∙ replaced_same m x.inner (omega arith) (p ∙ ap pairs_of is) ∙ x.pairs;
        left_is = omega arith;
        inner = z.1;
        levels = λ h b. let y = next_rebalanced h at now mid d c x.inner (omega arith) (x.levels h b) is m th in
            seam_rebalanced_to (AllByRecursion (IsUnbalanced h)) h at j mid new y (st h y.seam);
      }

  -- all are rebalanced
  pub rebalanced_all : (Q : List (Node K V Z) → Type 0) (h at : ℕ) (now : Node K V Z) → IsInner now → length (own_pairs now) ≡ at → IsRebalancedTo Q h at now
      → IsUnderfull (suc h) now
  rebalanced_all Q h at now inner li g =
      let k : length (children_of now) ≡ length (own_pairs now) + 1 = inner in
      (g.fits, inner, go at (omega arith) g)
    where
      go : (at : ℕ) → length (children_of now) ≡ at + 1 → IsRebalancedTo Q h at now
          → AllByRecursion (IsSound h) (children_of now) ⊎ ((length (own_pairs now) ≡ 0) × IsUnderfull h (child_at now 0))
      go zero n g = let k : length (children_of now) ≡ length (own_pairs now) + 1 = inner in inr (omega arith, g.underfull)
      go (suc at) n g =
          let e : children_of now ≡ take (suc at) (children_of now) ++ child_at now (suc at) ∷ [] = one_at (children_of now) (suc at) now (omega arith)
          ∙ ap (λ ds. take (suc at) (children_of now) ++ child_at now (suc at) ∷ ds) (drop_all (children_of now) (suc (suc at)) (omega arith)) in
          inl (subst (AllByRecursion (IsSound h)) (sym e) (all_both (IsSound h) (take (suc at) (children_of now)) (child_at now (suc at) ∷ []) g.before
          (g.sound (omega arith), tt)))

  pub rebalancing_end : (old now : Node K V Z) (at : ℕ) → IsRebalancing old now at 0 → (h : ℕ) → IsUnbalanced (suc h) old → IsUnderfull (suc h) now
  rebalancing_end old now at x h l =
      rebalanced_all (AllByRecursion (IsUnbalanced h)) h at now x.inner (omega arith) (x.levels h l)
