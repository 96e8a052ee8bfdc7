-- Who holds a byte, by the stretches in which it lies.
use Rattle.std.proofs.Common.{◌≡◌, ◌∙◌, ℕ, ◌≤◌, ◌<◌, ◌⊎◌, inl, inr, Bool, true, false, cond, List, [], ◌∷◌, Option, Some, None, refl, sym, ap, subst, arith}
use Rattle.std.specs.List.{AllByRecursion, Contains, find}
use Rattle.std.specs.Option.{option_map}
use Rattle.std.specs.Ordering.{nat_cmp}
use Rattle.std.proofs.lemmas.Bool.{cases_order}
use Rattle.std.proofs.lemmas.Bool.Decides.{nat_tests}
use Rattle.std.proofs.lemmas.List.Elements.{All-contains, All-contains_itself, All-from_recursion, recursion_from_All}
use Rattle.std.proofs.lemmas.Map.Lookups.{exact_unsigned}
use Rattle.fallible_collections.proofs.Laws.{number_total, exact_pair, contains_at, at_contained}
use Rattle.example_locks.specs.Held.{covers, holder_of, IsIn, AreApart}

-- The byte lies in a stretch of this owner.
pub record Lies (held : List (ℕ × (ℕ × ℕ))) (byte owner : ℕ) : Type 0 where
  pub start : ℕ
  pub end : ℕ
  pub there : IsIn held start (end, owner)
  pub from : start ≤ byte
  pub to : byte < end

pub one_value : (x y : ℕ × ℕ) → Some x ≡ Some y → x ≡ y
one_value x y h = cc

covers_to : (b : ℕ) (x : ℕ × (ℕ × ℕ)) → covers b x ≡ true → (x.0 ≤ b) × (b < x.1.0)
covers_to b x h = grind (arith, nat_tests)

to_covers : (b : ℕ) (x : ℕ × (ℕ × ℕ)) → x.0 ≤ b → b < x.1.0 → covers b x ≡ true
to_covers b x from to = grind (arith, nat_tests)

module _ {X : Type 0} (p : X → Bool) where
  found : (P : X → Type 0) (s : List X) (x : X) → AllByRecursion P s → find p s ≡ Some x → P x × (p x ≡ true)
  found P [] x a h = absurd cc
  found P (y ∷ s) x a h = go (p y) refl h (found P s x a.1)
    where
      go : (b : Bool) → p y ≡ b → cond b (Some y) (find p s) ≡ Some x → (find p s ≡ Some x → P x × (p x ≡ true)) → P x × (p x ≡ true)
      go true e h more = let same : y ≡ x = cc in (subst P same a.0, sym (ap p same) ∙ e)
      go false e h more = more h

  missed : (s : List X) → find p s ≡ None → AllByRecursion (λ x. p x ≡ true → ⊥) s
  missed [] h = tt
  missed (y ∷ s) h = go (p y) refl h (missed s)
    where
      go : (b : Bool) → p y ≡ b → cond b (Some y) (find p s) ≡ None → (find p s ≡ None → AllByRecursion (λ x. p x ≡ true → ⊥) s)
          → AllByRecursion (λ x. p x ≡ true → ⊥) (y ∷ s)
      go true e h more = absurd cc
      go false e h more = (λ t. let not : false ≡ true = sym e ∙ t in absurd cc, more h)

module _ (held : List (ℕ × (ℕ × ℕ))) (a : AreApart held) (b : ℕ) where
  pub lies : (o : ℕ) → holder_of held b ≡ Some o → Lies held b o
  lies o h = go (find (covers b) held) refl h
    where
      go : (f : Option (ℕ × (ℕ × ℕ))) → find (covers b) held ≡ f → option_map (λ x. x.1.1) f ≡ Some o → Lies held b o
      go None q h = absurd cc
      go (Some x) q h =
          let f = found (covers b) (Contains held) held x (recursion_from_All _ held (All-contains_itself held)) q in
          let c = covers_to b x f.1 in
          let same : x.1.1 ≡ o = cc in
          let there = ap (option_map (λ e. e.1)) (at_contained nat_cmp held x.0 x.1 number_total a.ascending f.0) in
          record { start = x.0; end = x.1.0; there = subst (λ p. IsIn held x.0 (x.1.0, p)) same there; from = c.0; to = c.1 }

  -- it lies in one stretch alone
  pub one_start : (o p : ℕ) (l : Lies held b o) (m : Lies held b p) → l.start ≡ m.start
  one_start o p l m = go (cases_order l.start m.start)
    where
      go : (l.start ≡ m.start) ⊎ ((l.start < m.start) ⊎ (m.start < l.start)) → l.start ≡ m.start
      go (inl e) = e
      go (inr (inl s)) = let c = a.apart _ _ _ _ l.there m.there s in absurd (omega (arith, l.to, m.from))
      go (inr (inr s)) = let c = a.apart _ _ _ _ m.there l.there s in absurd (omega (arith, m.to, l.from))

  one : (o p : ℕ) → Lies held b o → Lies held b p → o ≡ p
  one o p l m =
      ap (λ z. z.1) (one_value (l.end, o) (m.end, p) (sym l.there ∙ subst (λ s. IsIn held s (m.end, p)) (sym (one_start o p l m)) m.there))

  not_none : (o : ℕ) → Lies held b o → holder_of held b ≡ None → ⊥
  not_none o l h = go (find (covers b) held) refl h
    where
      go : (f : Option (ℕ × (ℕ × ℕ))) → find (covers b) held ≡ f → option_map (λ x. x.1.1) f ≡ None → ⊥
      go (Some x) q h = absurd cc
      go None q h =
          let there = contains_at nat_cmp held l.start l.start (l.end, o) (exact_pair nat_cmp held l.start (l.end, o) exact_unsigned l.there) in
          let none = All-from_recursion (λ x. covers b x ≡ true → ⊥) held (missed (covers b) held q) in
          All-contains (λ x. covers b x ≡ true → ⊥) held (l.start, (l.end, o)) none there
          (to_covers b (l.start, (l.end, o)) l.from l.to)

  pub holds : (o : ℕ) → Lies held b o → holder_of held b ≡ Some o
  holds o l = go (holder_of held b) refl
    where
      go : (h : Option ℕ) → holder_of held b ≡ h → holder_of held b ≡ Some o
      go None q = absurd (not_none o l q)
      go (Some p) q = q ∙ ap Some (one p o (lies p q) l)

  pub nobody : ((o : ℕ) → Lies held b o → ⊥) → holder_of held b ≡ None
  nobody none = go (holder_of held b) refl
    where
      go : (h : Option ℕ) → holder_of held b ≡ h → holder_of held b ≡ None
      go None q = q
      go (Some o) q = absurd (none o (lies o q))

module _ (old new : List (ℕ × (ℕ × ℕ))) (a : AreApart old) (n : AreApart new) (b : ℕ) where
  pub same : ((o : ℕ) → Lies old b o → Lies new b o) → ((o : ℕ) → Lies new b o → Lies old b o) → holder_of new b ≡ holder_of old b
  same to back = go (holder_of old b) refl
    where
      go : (h : Option ℕ) → holder_of old b ≡ h → holder_of new b ≡ h
      go None q = nobody new n b (λ o l. let was : None ≡ Some o = sym q ∙ holds old a b o (back o l) in absurd cc)
      go (Some o) q = holds new n b o (to o (lies old a b o q))
