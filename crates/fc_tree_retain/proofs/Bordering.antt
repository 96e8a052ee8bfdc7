-- Children of which some beside each other may hold few pairs, rebalanced.
use Rattle.std.proofs.Common.{◌≡◌, ℕ, suc, zero, ◌+◌, ◌-◌, ◌<◌, ◌≤◌, List, [], ◌∷◌, length, get_or, take, drop, refl, sym, ap, subst, ◌∙◌, arith, inl, inr}
use Rattle.std.specs.List.{AllByRecursion}
use Rattle.std.proofs.lemmas.List.{drop-drop}
use Rattle.fc_tree_node.specs.declared.node.Node.{Node}
use Rattle.fc_tree_node.specs.Node.{own_pairs, children_of, child_at, pairs_of, IsInner, IsSound}
use Rattle.fc_tree_node.proofs.Lists.{all_both, all_at}
use Rattle.fc_tree_node.proofs.Gaps.{drop_item}
use Rattle.fc_tree_retain.specs.Rebalancing.{IsUnderfull, IsSeam, IsSeamRebalanced}
use Rattle.fc_tree_retain.specs.Stretch.{IsUnderfullWithin}
use Rattle.fc_tree_retain.proofs.Settling.{IsRebalancedTo, IsNextRebalanced, seam_rebalanced_to, seam_sizes, rebalanced_all, all_from}

module _ {X : Type 0} (P : X → Type 0) where
  -- fewer first items
  all_fewer : (xs : List X) (i j : ℕ) → i ≤ j → AllByRecursion P (take j xs) → AllByRecursion P (take i xs)
  all_fewer xs zero j h a = tt
  all_fewer [] (suc i) j h a = tt
  all_fewer (x ∷ xs) (suc i) zero h a = absurd (omega arith)
  all_fewer (x ∷ xs) (suc i) (suc j) h a = (a.0, all_fewer xs i j (omega arith) a.1)

  one_of : (xs : List X) (i j : ℕ) (d : X) → i < j → i < length xs → AllByRecursion P (take j xs) → P (get_or xs i d)
  one_of [] i j d h k a = absurd (omega arith)
  one_of (x ∷ xs) i zero d h k a = absurd (omega arith)
  one_of (x ∷ xs) zero (suc j) d h k a = a.0
  one_of (x ∷ xs) (suc i) (suc j) d h k a = one_of xs i j d (omega arith) (omega arith) a.1

module _ {K V Z : Type 0} where
  -- so many may hold few pairs, and those after these are sound
  abbrev pub AreUnderfullFirst : ℕ → ℕ → List (Node K V Z) → Type 0
  AreUnderfullFirst h left cs = AllByRecursion (IsUnderfull h) cs × AllByRecursion (IsSound h) (drop left cs)

  pub record IsBordering (old now : Node K V Z) (first last at left : ℕ) : Type 0 where
    pub pairs : pairs_of now ≡ pairs_of old
    pub inner : IsInner now
    pub inside : at + left ≤ length (own_pairs now)
    pub levels : (h : ℕ) → IsUnderfullWithin h old first last → IsRebalancedTo (AreUnderfullFirst h left) h at now

  pub bordering_start : (g : ℕ) (n : Node K V Z) (first last at left : ℕ) → IsUnderfullWithin g n first last → at ≡ first - 1 → at + left ≡ last
      → IsBordering n n first last at left
  bordering_start g n first last at left t p e =
      let inside = t.last in
      record {
        pairs = refl;
        inner = t.inner;
        inside = omega arith;
        levels = start;
      }
    where
      start : (h : ℕ) → IsUnderfullWithin h n first last → IsRebalancedTo (AreUnderfullFirst h left) h at n
      start h t =
          let cs = children_of n in
          let reached : suc at + left ≡ last + 1 = omega arith in
          record {
            fits = t.fits;
            before = all_fewer (IsSound h) cs at first (omega arith) t.before;
            underfull = all_at (IsUnderfull h) cs at n (omega arith) t.underfull;
            sound = λ some. one_of (IsSound h) cs at first n (omega arith) (omega arith) t.before;
            after = (
              all_from (IsUnderfull h) cs (suc at) t.underfull,
              subst (AllByRecursion (IsSound h)) (sym (drop-drop left (suc at) cs ∙ ap (λ i. drop i cs) reached)) t.after,
            );
          }

  -- the next two children meet
  next_two : (Q Q' : List (Node K V Z) → Type 0) (h at : ℕ) (n : Node K V Z) → IsInner n → at < length (own_pairs n) → IsRebalancedTo Q h at n
      → ((c : Node K V Z) (cs : List (Node K V Z)) → Q (c ∷ cs) → IsUnderfull h c × Q' cs) → IsNextRebalanced Q' h at n
  next_two Q Q' h at n inner lt g f =
      let cs = children_of n in
      let k : length cs ≡ length (own_pairs n) + 1 = inner in
      let one : at + 1 ≡ suc at = omega arith in
      let r = f (get_or cs (suc at) n) (drop (suc (suc at)) cs) (subst Q (drop_item cs (suc at) n (omega arith)) g.after) in
      record {
        seam = record {
          in_bounds = lt;
          fits = g.fits;
          inner = inner;
          before = g.before;
          left = g.underfull;
          right = subst (λ i. IsUnderfull h (child_at n i)) (sym one) r.0;
        };
        sound = g.sound;
        after = r.1;
      }

  pub bordering_seam : (old now : Node K V Z) (first last at left left' : ℕ) → IsBordering old now first last at left → left ≡ suc left'
      → (h : ℕ) → IsUnderfullWithin h old first last → IsNextRebalanced (AreUnderfullFirst h left') h at now
  bordering_seam old now first last at left left' b e h t =
      next_two (AreUnderfullFirst h left) (AreUnderfullFirst h left') h at now b.inner (omega arith) (b.levels h t)
      (λ c cs q. (q.0.0, (q.0.1, subst (λ k. AllByRecursion (IsSound h) (drop k (c ∷ cs))) e q.1)))

  pub bordering_more : (g : ℕ) (old now new : Node K V Z) (first last at left left' j : ℕ) → IsUnderfullWithin g old first last
      → IsBordering old now first last at left → left ≡ suc left' → pairs_of new ≡ pairs_of now
      → ((h : ℕ) → IsSeam h now at → IsSeamRebalanced h at j now new) → IsBordering old new first last j left'
  bordering_more g old now new first last at left left' j t b e np st =
      let x = bordering_seam old now first last at left left' b e g t in
      let z = seam_sizes g at j now new x.seam (st g x.seam) in
      let inside = b.inside in
      record {
        pairs = np ∙ b.pairs;
        inner = z.1;
        inside = omega arith;
        levels = λ h u. let y = bordering_seam old now first last at left left' b e h u in
            seam_rebalanced_to (AreUnderfullFirst h left') h at j now new y (st h y.seam);
      }

  -- the last of them meets one that is sound
  pub bordering_last : (old now : Node K V Z) (first last at : ℕ) → IsBordering old now first last at 0 → at < length (own_pairs now)
      → (h : ℕ) → IsUnderfullWithin h old first last → IsNextRebalanced (AllByRecursion (IsSound h)) h at now × IsSound h (child_at now (at + 1))
  bordering_last old now first last at b lt h t =
      let cs = children_of now in
      let one : at + 1 ≡ suc at = omega arith in
      let m = b.levels h t in
      let all = subst (AllByRecursion (IsSound h)) (drop_item cs (suc at) now (omega arith)) m.after.1 in (
        next_two (AreUnderfullFirst h 0) (AllByRecursion (IsSound h)) h at now b.inner lt m (λ c ds q. (q.0.0, q.1.1)),
        subst (λ i. IsSound h (child_at now i)) (sym one) all.0,
      )

  pub bordering_seam_rebalanced : (h at j : ℕ) (mid new : Node K V Z) → IsNextRebalanced (AllByRecursion (IsSound h)) h at mid → IsSound h
      (child_at mid (at + 1))
      → IsSeamRebalanced h at j mid new → IsUnderfull (suc h) new
  bordering_seam_rebalanced h at j mid new x sound st = go st
    where
      sizes : (length (own_pairs new) + (at + 1) ≡ length (own_pairs mid) + j) × IsInner new
      sizes = seam_sizes h at j mid new x.seam st

      go : IsSeamRebalanced h at j mid new → IsUnderfull (suc h) new
      go (inl (q, o)) = (
        omega arith,
        sizes.1,
        inl (subst (AllByRecursion (IsSound h)) (sym o.children) (all_both (IsSound h) (take at (children_of mid)) _ x.seam.before
            (o.sound (inr sound), x.after))),
      )
      go (inr (q, o)) = (
        omega arith,
        sizes.1,
        inl (subst (AllByRecursion (IsSound h)) (sym o.children) (all_both (IsSound h) (take at (children_of mid)) _ x.seam.before
            (o.sound.0, (o.sound.1, x.after)))),
      )

  pub bordering_end : (old now : Node K V Z) (first last at : ℕ) → IsBordering old now first last at 0 → length (own_pairs now) ≤ at
      → (h : ℕ) → IsUnderfullWithin h old first last → IsUnderfull (suc h) now
  bordering_end old now first last at b le h t =
      rebalanced_all (AreUnderfullFirst h 0) h at now b.inner (omega arith) (b.levels h t)
