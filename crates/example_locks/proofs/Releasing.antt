-- An owner gives up the bytes of a range, stretch after stretch from the last one on.
use Rattle.std.proofs.Common.{◌≡◌, ◌∙◌, ℕ, ◌≤◌, ◌<◌, ◌⊎◌, inl, inr, Bool, true, false, cond, List, Option, None, Some, nat_eq, refl, sym, ap, subst, arith, max}
use Rattle.std.proofs.lemmas.Bool.{cases_lt, ne_eqb}
use Rattle.example_locks.specs.Held.{holder_of, without, IsIn, AreApart, StopAt, IsLastIn, IsReleased}
use Rattle.example_locks.proofs.Holders.{nobody}
use Rattle.example_locks.proofs.Lasts.{owner_after, holds_from}

-- Another owner's byte stays, and nothing is given up twice.
pub without_other : (owner other : ℕ) → ¬ (other ≡ owner) → without owner (Some other) ≡ Some other
without_other owner other n = ap (λ b. cond b None (Some other)) (ne_eqb other owner n)

without_twice : (owner : ℕ) (h : Option ℕ) → without owner (without owner h) ≡ without owner h
without_twice owner None = refl
without_twice owner (Some other) = go (nat_eq other owner) refl
  where
    go : (b : Bool) → nat_eq other owner ≡ b → without owner (cond (nat_eq other owner) None (Some other)) ≡ cond (nat_eq other owner) None (Some other)
    go true e = ap (λ b. without owner (cond b None (Some other))) e ∙ sym (ap (λ b. cond b None (Some other)) e)
    go false e =
        ap (λ b. without owner (cond b None (Some other))) e ∙ refl

module _ (old : List (ℕ × (ℕ × ℕ))) (a : AreApart old) (owner : ℕ) where
  -- Of bytes that another owner holds nothing is given up.
  pub released_other : (start end other : ℕ) → ¬ (other ≡ owner) → ((b : ℕ) → start ≤ b → b < end → holder_of old b ≡ Some other)
      → IsReleased old old start end owner
  released_other start end other n theirs = record {
    apart = a;
    within = λ s x i. (x.0, omega arith, i);
    inside = λ b f t. theirs b f t ∙ sym (ap (without owner) (theirs b f t) ∙ without_other owner other n);
    outside = λ b o. refl;
  }

module _ (old cur new : List (ℕ × (ℕ × ℕ))) (start end owner b : ℕ) (last : ℕ × (ℕ × ℕ)) (stop : StopAt old owner end) (order : start ≤ end)
    (in_range : b ≤ end) (r : IsReleased old cur (max start b) end owner) (l : IsLastIn cur start b last)
    (s : IsReleased cur new (max start last.0) last.1.0 owner) where
  within : (t : ℕ) (x : ℕ × ℕ) → IsIn new t x → (e : ℕ) × (x.0 ≤ e) × IsIn old t (e, x.1)
  within t x i = let v = s.within t x i in let w = r.within t (v.0, x.1) v.2 in (w.0, (let le = w.1 in let me = v.1 in omega arith), w.2)

  -- between its end and the limit nobody holds a byte
  empty : (p : ℕ) → last.1.0 ≤ p → last.0 ≤ p → p < b → holder_of cur p ≡ None
  empty p f g t = nobody cur r.apart p (λ o m. let q = owner_after cur r.apart start b last l p o g t m in absurd (omega (arith, q.0)))

  inside : (p : ℕ) → max start last.0 ≤ p → p < end → holder_of new p ≡ without owner (holder_of old p)
  inside p f t = go (cases_lt p last.1.0) (cases_lt p b)
    where
      go : (p < last.1.0) ⊎ (last.1.0 ≤ p) → (p < b) ⊎ (b ≤ p) → holder_of new p ≡ without owner (holder_of old p)
      go (inl n) (inl m) = s.inside p f n ∙ ap (without owner) (r.outside p (inl (omega arith)))
      go (inl n) (inr m) = s.inside p f n ∙ ap (without owner) (r.inside p (omega arith) t) ∙ without_twice owner (holder_of old p)
      go (inr n) (inl m) =
          let none = empty p n (omega arith) m in
          s.outside p (inr n) ∙ none ∙ sym (ap (without owner) (sym (r.outside p (inl (omega arith))) ∙ none))
      go (inr n) (inr m) = s.outside p (inr n) ∙ r.inside p (omega arith) t

  -- what it holds after the end of the range is another owner's
  kept : (p : ℕ) → end ≤ p → p < last.1.0 → without owner (holder_of cur p) ≡ holder_of cur p
  kept p f t = go (holds_from cur r.apart start b last l p (omega (arith, l.before)) t)
    where
      other : last.1.1 ≡ owner → ⊥
      other q =
          let v = r.within last.0 last.1 l.there in
          let c = stop last.0 v.0 (subst (λ o. IsIn old last.0 (v.0, o)) q v.2) (omega (arith, l.before)) in
          absurd (omega (arith, v.1))

      go : holder_of cur p ≡ Some last.1.1 → without owner (holder_of cur p) ≡ holder_of cur p
      go q = ap (without owner) q ∙ without_other owner last.1.1 other ∙ sym q

  outside : (p : ℕ) → (p < max start last.0) ⊎ (end ≤ p) → holder_of new p ≡ holder_of old p
  outside p (inl n) = s.outside p (inl n) ∙ r.outside p (inl (omega (arith, l.before)))
  outside p (inr n) = go (cases_lt p last.1.0)
    where
      go : (p < last.1.0) ⊎ (last.1.0 ≤ p) → holder_of new p ≡ holder_of old p
      go (inl m) = s.inside p (omega (arith, l.before)) m ∙ kept p n m ∙ r.outside p (inr n)
      go (inr m) = s.outside p (inr m) ∙ r.outside p (inr n)

  pub released_more : IsReleased old new (max start last.0) end owner
  released_more = record { apart = s.apart; within = within; inside = inside; outside = outside }

module _ (old cur : List (ℕ × (ℕ × ℕ))) (start end owner b : ℕ) (r : IsReleased old cur (max start b) end owner)
    (none : (s : ℕ) (x : ℕ × ℕ) → IsIn cur s x → s < b → x.0 ≤ start) where
  pub released_all : IsReleased old cur start end owner
  released_all = record { apart = r.apart; within = r.within; inside = λ p f t. inside p f t (cases_lt p b); outside = λ p o. r.outside p (wider o) }
    where
      empty : (p : ℕ) → start ≤ p → p < b → holder_of cur p ≡ None
      empty p f t = nobody cur r.apart p (λ o m. let q = none m.start (m.end, o) m.there (omega (arith, m.from)) in absurd (omega (arith, m.to)))

      inside : (p : ℕ) → start ≤ p → p < end → (p < b) ⊎ (b ≤ p) → holder_of cur p ≡ without owner (holder_of old p)
      inside p f t (inl n) = let e = empty p f n in e ∙ sym (ap (without owner) (sym (r.outside p (inl (omega arith))) ∙ e))
      inside p f t (inr n) = r.inside p (omega arith) t

      wider : {p : ℕ} → (p < start) ⊎ (end ≤ p) → (p < max start b) ⊎ (end ≤ p)
      wider (inl n) = inl (omega arith)
      wider (inr n) = inr n
