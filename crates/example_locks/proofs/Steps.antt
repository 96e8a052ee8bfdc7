-- What one stretch that is put in, or that an owner gives up, changes of who holds which byte.
use Rattle.std.proofs.Common.{◌≡◌, ◌∙◌, ℕ, ◌≤◌, ◌<◌, ◌⊎◌, inl, inr, cond, List, None, Some, IsSome, length, refl, sym, ap, subst, arith, max}
use Rattle.std.specs.Ordering.{nat_cmp}
use Rattle.std.specs.declared.cmp.Ordering.TheVariants.{Equal}
use Rattle.std.proofs.lemmas.Bool.{cases_order, cases_lt, eq-eqb}
use Rattle.fallible_collections.specs.Words.{put, cut, at as find_at, value_at, IsAscending}
use Rattle.fallible_collections.proofs.Laws.{number_total, number_equal, ascending_put, ascending_cut, value_at_put, value_at_put_other, value_before_put}
use Rattle.fallible_collections.proofs.Laws.{value_at_cut, value_at_cut_other, length_cut_there, length_put_there, some_at}
use Rattle.example_locks.specs.Held.{holder_of, without, IsIn, AreApart, IsReleased}
use Rattle.example_locks.proofs.Holders.{Lies, holds, nobody, same, one_start, one_value}

differ : (t s : ℕ) → (t < s) ⊎ (s < t) → ¬ (nat_cmp t s ≡ Equal)
differ t s (inl l) e = let q = (number_equal t s).0 e in absurd (omega arith)
differ t s (inr l) e = let q = (number_equal t s).0 e in absurd (omega arith)

-- Once a stretch is put in at c, a stretch is that one, or was there.
abbrev WasPut : List (ℕ × (ℕ × ℕ)) → ℕ → ℕ × ℕ → ℕ → ℕ × ℕ → Type 0
WasPut old c x t y = ((t ≡ c) × (y ≡ x)) ⊎ IsIn old t y

-- Once the stretch at s is ended, a stretch is what is left of it, or another one that was there.
abbrev WasEnded : List (ℕ × (ℕ × ℕ)) → ℕ → ℕ → ℕ → ℕ → ℕ × ℕ → Type 0
WasEnded old s at o t y = ((t ≡ s) × (s < at) × (y ≡ (at, o))) ⊎ (((t < s) ⊎ (s < t)) × IsIn old t y)

module _ (old : List (ℕ × (ℕ × ℕ))) (a : AreApart old) where
  -- One stretch is put where nobody holds a byte.
  module _ (c h o : ℕ) (some : c < h) (free : (b : ℕ) → c ≤ b → b < h → holder_of old b ≡ None) where
    -- the others end before it or start after it
    beside : (t : ℕ) (y : ℕ × ℕ) → IsIn old t y → (y.0 ≤ c) ⊎ (h ≤ t)
    beside t y i = go (cases_lt c y.0) (cases_lt t h)
      where
        go : (c < y.0) ⊎ (y.0 ≤ c) → (t < h) ⊎ (h ≤ t) → (y.0 ≤ c) ⊎ (h ≤ t)
        go (inr l) n = inl l
        go (inl l) (inr n) = inr n
        go (inl l) (inl n) =
            let w = a.whole t y i in
            let is = holds old a (max c t) y.1 (record { start = t; end = y.0; there = i; from = omega arith; to = omega arith }) in
            let not : None ≡ Some y.1 = sym (free (max c t) (omega arith) (omega arith)) ∙ is in absurd cc

    before : (t : ℕ) (y : ℕ × ℕ) → IsIn (put nat_cmp old c (h, o)) t y → WasPut old c (h, o) t y
    before t y i = go (value_before_put nat_cmp old c (h, o) t y number_total i)
      where
        go : ((nat_cmp t c ≡ Equal) × (y ≡ (h, o))) ⊎ (¬ (nat_cmp t c ≡ Equal) × IsIn old t y) → WasPut old c (h, o) t y
        go (inl e) = inl ((number_equal t c).0 e.0, e.1)
        go (inr e) = inr e.1

    stays : (t : ℕ) (y : ℕ × ℕ) → IsIn old t y → IsIn (put nat_cmp old c (h, o)) t y
    stays t y i = value_at_put_other nat_cmp old c (h, o) t number_total (differ t c (go (beside t y i))) ∙ i
      where
        go : (y.0 ≤ c) ⊎ (h ≤ t) → (t < c) ⊎ (c < t)
        go (inl l) = let w = a.whole t y i in inl (omega arith)
        go (inr l) = inr (omega arith)

    whole : (t : ℕ) (y : ℕ × ℕ) → WasPut old c (h, o) t y → t < y.0
    whole t y (inl e) = let f = ap (λ z. z.0) e.1 in omega (arith, e.0)
    whole t y (inr i) = a.whole t y i

    apart : (s t : ℕ) (x y : ℕ × ℕ) → WasPut old c (h, o) s x → WasPut old c (h, o) t y → s < t → x.0 ≤ t
    apart s t x y (inl d) (inl e) l = absurd (omega (arith, d.0, e.0))
    apart s t x y (inl d) (inr j) l = go (beside t y j)
      where
        go : (y.0 ≤ c) ⊎ (h ≤ t) → x.0 ≤ t
        go (inl n) = let w = a.whole t y j in absurd (omega (arith, d.0))
        go (inr n) = let f = ap (λ z. z.0) d.1 in omega arith
    apart s t x y (inr i) (inl e) l = go (beside s x i)
      where
        go : (x.0 ≤ c) ⊎ (h ≤ s) → x.0 ≤ t
        go (inl n) = omega (arith, e.0)
        go (inr n) = absurd (omega (arith, e.0))
    apart s t x y (inr i) (inr j) l = a.apart s t x y i j l

    pub put_apart : AreApart (put nat_cmp old c (h, o))
    put_apart = record {
      ascending = ascending_put nat_cmp old c (h, o) number_total a.ascending;
      whole = λ t y i. whole t y (before t y i);
      apart = λ s t x y i j l. apart s t x y (before s x i) (before t y j) l;
    }

    pub put_inside : (b : ℕ) → c ≤ b → b < h → holder_of (put nat_cmp old c (h, o)) b ≡ Some o
    put_inside b f t = holds (put nat_cmp old c (h, o)) put_apart b o
        (record { start = c; end = h; there = value_at_put nat_cmp old c (h, o) number_total; from = f; to = t })

    pub put_outside : (b : ℕ) → (b < c) ⊎ (h ≤ b) → holder_of (put nat_cmp old c (h, o)) b ≡ holder_of old b
    put_outside b out = same old (put nat_cmp old c (h, o)) a put_apart b
        (λ p l. record { start = l.start; end = l.end; there = stays _ _ l.there; from = l.from; to = l.to })
        (λ p l. back p l (before _ _ l.there) out)
      where
        back : (p : ℕ) (l : Lies (put nat_cmp old c (h, o)) b p) → WasPut old c (h, o) l.start (l.end, p) → (b < c) ⊎ (h ≤ b)
            → Lies old b p
        back p l (inl e) (inl n) = absurd (omega (arith, e.0, l.from))
        back p l (inl e) (inr n) = let f = ap (λ z. z.0) e.1 in absurd (omega (arith, l.to))
        back p l (inr i) n = record { start = l.start; end = l.end; there = i; from = l.from; to = l.to }

  -- The stretch at s is ended at a byte, or taken out where it starts there or after it.
  module _ (new : List (ℕ × (ℕ × ℕ))) (ascending : IsAscending nat_cmp new) (s e o at : ℕ) (there : IsIn old s (e, o)) (reaches : at < e)
      (other : (t : ℕ) → ¬ (nat_cmp t s ≡ Equal) → value_at nat_cmp new t ≡ value_at nat_cmp old t)
      (here : (y : ℕ × ℕ) → IsIn new s y → (s < at) × (y ≡ (at, o))) (front : s < at → IsIn new s (at, o)) where
    was : (t : ℕ) (y : ℕ × ℕ) → IsIn new t y → WasEnded old s at o t y
    was t y i = go (cases_order t s)
      where
        go : (t ≡ s) ⊎ ((t < s) ⊎ (s < t)) → WasEnded old s at o t y
        go (inl q) = let f = here y (subst (λ k. IsIn new k y) q i) in inl (q, f.0, f.1)
        go (inr l) = inr (l, sym (other t (differ t s l)) ∙ i)

    within : (t : ℕ) (y : ℕ × ℕ) → IsIn new t y → (z : ℕ) × (y.0 ≤ z) × IsIn old t (z, y.1)
    within t y i = go (was t y i)
      where
        go : WasEnded old s at o t y → (z : ℕ) × (y.0 ≤ z) × IsIn old t (z, y.1)
        go (inl q) =
            let end = ap (λ (p : ℕ × ℕ). p.0) q.2 in
            let owner = ap (λ (p : ℕ × ℕ). p.1) q.2 in
            (e, omega arith, subst (λ k. IsIn old k (e, y.1)) (sym q.0) (subst (λ p. IsIn old s (e, p)) (sym owner) there))
        go (inr i) = (y.0, omega arith, i.1)

    ended_apart : AreApart new
    ended_apart = record {
      ascending = ascending;
      whole = λ t y i. whole t y (was t y i);
      apart = λ t u y z i j l.
          (let w = within t y i in
          let v = within u z j in
          let c = a.apart t u (w.0, y.1) (v.0, z.1) w.2 v.2 l in omega (arith, w.1));
    }
      where
        whole : (t : ℕ) (y : ℕ × ℕ) → WasEnded old s at o t y → t < y.0
        whole t y (inl q) = let f = ap (λ (p : ℕ × ℕ). p.0) q.2 in omega (arith, q.0, q.1)
        whole t y (inr i) = a.whole t y i.1

    gone : (b : ℕ) → s ≤ b → at ≤ b → b < e → holder_of new b ≡ None
    gone b f g t = nobody new ended_apart b (λ p l. go p l (was _ _ l.there))
      where
        go : (p : ℕ) (l : Lies new b p) → WasEnded old s at o l.start (l.end, p)
            → ⊥
        go p l (inl q) = let h = ap (λ (z : ℕ × ℕ). z.0) q.2 in absurd (omega (arith, l.to))
        go p l (inr (inl n, i)) =
            let q = one_start old a b p o (record { start = l.start; end = l.end; there = i; from = l.from; to = l.to })
            (record { start = s; end = e; there = there; from = f; to = t }) in
            absurd (omega arith)
        go p l (inr (inr n, i)) =
            let q = one_start old a b p o (record { start = l.start; end = l.end; there = i; from = l.from; to = l.to })
            (record { start = s; end = e; there = there; from = f; to = t }) in
            absurd (omega arith)

    kept : (b : ℕ) → (b < max at s) ⊎ (e ≤ b) → holder_of new b ≡ holder_of old b
    kept b out = same old new a ended_apart b (λ p l. to p l (cases_order l.start s) out) (λ p l. back p l (was _ _ l.there))
      where
        to : (p : ℕ) (l : Lies old b p) → (l.start ≡ s) ⊎ ((l.start < s) ⊎ (s < l.start)) → (b < max at s) ⊎ (e ≤ b) → Lies new b p
        to p l (inl q) n = at_start n
          where
            is : ◌≡◌ {A = ℕ × ℕ} (l.end, p) (e, o)
            is = one_value (l.end, p) (e, o) (sym l.there ∙ subst (λ k. IsIn old k (e, o)) (sym q) there)

            at_start : (b < max at s) ⊎ (e ≤ b) → Lies new b p
            at_start (inl n) =
                let owner : o ≡ p = sym (ap (λ z. z.1) is) in
                let left : IsIn new s (at, p) = subst (λ k. IsIn new s (at, k)) owner (front (omega (arith, l.from))) in
                record { start = s; end = at; there = left; from = omega (arith, l.from); to = omega (arith, l.from) }
            at_start (inr n) = let end : l.end ≡ e = ap (λ z. z.0) is in absurd (omega (arith, l.to))
        to p l (inr q) n = record { start = l.start; end = l.end; there = other l.start (differ l.start s q) ∙ l.there; from = l.from; to = l.to }

        back : (p : ℕ) (l : Lies new b p) → WasEnded old s at o l.start (l.end, p)
            → Lies old b p
        back p l (inl q) =
            let end = ap (λ (z : ℕ × ℕ). z.0) q.2 in
            let owner = ap (λ (z : ℕ × ℕ). z.1) q.2 in
            record { start = s; end = e; there = subst (λ k. IsIn old s (e, k)) (sym owner) there; from = omega (arith, q.0, l.from); to = omega (arith, l.to) }
        back p l (inr i) = record { start = l.start; end = l.end; there = i.1; from = l.from; to = l.to }

    pub ended : IsReleased old new (max at s) e o
    ended = record {
      apart = ended_apart;
      within = within;
      inside = λ b f t.
          (let was : holder_of old b ≡ Some o = holds old a b o (record { start = s; end = e; there = there; from = omega arith; to = t }) in
          gone b (omega arith) (omega arith) t ∙ sym (ap (without o) was ∙ ap (λ z. cond z None (Some o)) (eq-eqb o o refl)));
      outside = kept;
    }

  -- What an owner gives up of a stretch that starts at s: all of it, or what is after a byte.
  module _ (s : ℕ) (x : ℕ × ℕ) (owner at : ℕ) (there : IsIn old s x) (same : x.1 ≡ owner) (reaches : at < x.0) where
    theirs : IsIn old s (x.0, owner)
    theirs = subst (λ o. IsIn old s (x.0, o)) same there

    here : IsSome (find_at nat_cmp old s)
    here = some_at nat_cmp old s (subst IsSome (sym there) refl)

    pub cut_released : at ≤ s → IsReleased old (cut nat_cmp old s) (max at s) x.0 owner
    cut_released l = ended (cut nat_cmp old s) (ascending_cut nat_cmp old s number_total a.ascending) s x.0 owner at theirs reaches
        (λ t n. value_at_cut_other nat_cmp old s t number_total n)
        (λ y i. let not : None ≡ Some y = sym (value_at_cut nat_cmp old s) ∙ i in absurd cc)
        (λ n. absurd (omega arith))

    pub cut_fewer : length (cut nat_cmp old s) ≤ length old
    cut_fewer = let n = length_cut_there nat_cmp old s number_total a.ascending here in omega arith

    pub end_released : s < at → IsReleased old (put nat_cmp old s (at, owner)) (max at s) x.0 owner
    end_released l = ended (put nat_cmp old s (at, owner)) (ascending_put nat_cmp old s (at, owner) number_total a.ascending) s x.0 owner at theirs reaches
        (λ t n. value_at_put_other nat_cmp old s (at, owner) t number_total n)
        (λ y i. (l, one_value y (at, owner) (sym i ∙ value_at_put nat_cmp old s (at, owner) number_total)))
        (λ n. value_at_put nat_cmp old s (at, owner) number_total)

    pub end_fewer : length (put nat_cmp old s (at, owner)) ≤ length old
    end_fewer = let n = length_put_there nat_cmp old s (at, owner) number_total a.ascending here in omega arith
