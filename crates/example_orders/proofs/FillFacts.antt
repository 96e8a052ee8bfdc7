-- What rests once an order was filled.
use Rattle.std.proofs.Common.{◌≡◌, ℕ, ◌<◌, ◌≤◌, ◌+◌, ◌-◌, ◌^◌, ◌==◌, Bool, true, false, [], ◌∷◌, Some, None, IfSome, All, refl, sym, subst, arith}
use Rattle.std.specs.Prelude.{nat_lt}
use Rattle.std.specs.List.{AllByRecursion}
use Rattle.std.proofs.lemmas.Bool.Decides.{nat_tests}
use Rattle.std.proofs.lemmas.List.Elements.{All-from_recursion, recursion_from_All, All-weaker}
use Rattle.std.proofs.lemmas.List.Sums.{sum_by-cons}
use Rattle.example_orders.specs.Orders.{Orders, total, after_fills, unfilled, AreApart}
use Rattle.example_orders.specs.Fills.{fill_from, best_fill, after_fill, fills_of}
use Rattle.example_orders.specs.declared.ladder.Fill.{Fill}

module _ {G : Type 0} where
  decided : (b : Bool) → (b ≡ true → G) → (b ≡ false → G) → G
  decided b f g = elim b as (λ t. b ≡ t → G) [ true ↦ f | false ↦ g ] refl

pub not_zero : (w : ℕ) → 0 < w → (w == 0) ≡ false
not_zero w p = grind (arith, nat_tests)

is_less : (x y : ℕ) → nat_lt x y ≡ true → x < y
is_less x y e = grind (arith, nat_tests)

is_not_less : (x y : ℕ) → nat_lt x y ≡ false → y ≤ x
is_not_less x y e = grind (arith, nat_tests)

nothing : (w : ℕ) → w - w ≡ 0
nothing w = omega arith

-- Where nothing is wanted, all stay.
pub none_wanted : (limit : ℕ) (s : Orders) → (after_fills limit 0 s ≡ s) × (unfilled limit 0 s ≡ 0)
none_wanted limit [] = (refl, refl)
none_wanted limit (o ∷ os) = (refl, refl)

none_made : (limit : ℕ) (s : Orders) → fills_of limit 0 s ≡ []
none_made limit [] = refl
none_made limit (o ∷ os) = refl

module _ (limit w : ℕ) where
  pub no_fills : (s : Orders) → w ≤ 0 → fills_of limit w s ≡ []
  no_fills s l = let z : w ≡ 0 = omega arith in rw z (none_made limit s)

  -- Where no more is wanted, all stay.
  pub no_more : (s : Orders) → w ≤ 0 → (after_fills limit w s ≡ s) × (unfilled limit w s ≡ w)
  no_more s l = let z : w ≡ 0 = omega arith in subst (λ n. (after_fills limit n s ≡ s) × (unfilled limit n s ≡ n)) (sym z) (none_wanted limit s)

  -- The first fill, and those that come after it.
  pub next_fill : (s : Orders) (fill : Fill) → 0 < w → best_fill limit w s ≡ Some fill
      → fills_of limit w s ≡ fill ∷ fills_of limit (w - fill.quantity) (after_fill limit w s)
  next_fill [] fill p e = cc
  next_fill (o ∷ os) fill p e = decided (nat_lt limit o.0.0)
      (λ b. let none : None ≡ Some fill = rw b at e in cc)
      (λ b.
      let some : Some (fill_from w o) ≡ Some fill = rw b at e in
      let is : fill_from w o ≡ fill = cc in
      subst (λ (f : Fill). fills_of limit w (o ∷ os) ≡ f ∷ fills_of limit (w - f.quantity) (after_fill limit w (o ∷ os))) is
      (decided (nat_lt w o.1)
      (λ d. let l = is_less w o.1 d in let z : w - o.1 ≡ 0 = omega arith in rw (not_zero w p, b, d, z, nothing w, none_made limit os) refl)
      (λ d. rw (not_zero w p, b, d) refl)))

  -- A fill is of something, and of what is wanted at most.
  fill_of : (s : Orders) → AllByRecursion (λ o. 0 < o.1) s → 0 < w → IfSome (best_fill limit w s) (λ f. (0 < f.quantity) × (f.quantity ≤ w))
  fill_of [] a p = tt
  fill_of (o ∷ os) a p = decided (nat_lt limit o.0.0)
      (λ b. rw b tt)
      (λ b. decided (nat_lt w o.1) (λ d. rw (b, d) (p, omega arith)) (λ d. rw (b, d) (a.0, is_not_less w o.1 d)))

  pub fill_within : (s : Orders) → All (λ o. 0 < o.1) s → 0 < w → IfSome (best_fill limit w s) (λ f. (0 < f.quantity) × (f.quantity ≤ w))
  fill_within s h p = fill_of s (recursion_from_All (λ o. 0 < o.1) s h) p

  -- None that rests is empty.
  positive_after : (s : Orders) → AllByRecursion (λ o. 0 < o.1) s → AllByRecursion (λ o. 0 < o.1) (after_fill limit w s)
  positive_after [] a = tt
  positive_after (o ∷ os) a = decided (nat_lt limit o.0.0)
      (λ b. rw b a)
      (λ b. decided (nat_lt w o.1)
      (λ d. let l = is_less w o.1 d in rw (b, d) ((let m : 0 < o.1 - w = omega arith in m), a.1))
      (λ d. rw (b, d) a.1))

  pub all_positive : (s : Orders) → All (λ o. 0 < o.1) s → All (λ o. 0 < o.1) (after_fill limit w s)
  all_positive s h = All-from_recursion (λ o. 0 < o.1) (after_fill limit w s) (positive_after s (recursion_from_All (λ o. 0 < o.1) s h))

-- What is filled and what is left to fill make up what was there.
pub total_after : (limit w : ℕ) (s : Orders) → total (after_fills limit w s) + w ≡ total s + unfilled limit w s
total_after limit w [] = refl
total_after limit w (o ∷ os) = decided (w == 0) (λ z. rw z refl)
    (λ z. decided (nat_lt limit o.0.0) (λ b. rw (z, b) refl)
    (λ b. decided (nat_lt w o.1)
    (λ d. let l = is_less w o.1 d in rw (z, b, d) (omega (
      arith,
      sum_by-cons (λ (o : (ℕ × ℕ) × ℕ). o.1) o os,
      sum_by-cons (λ (o : (ℕ × ℕ) × ℕ). o.1) (o.0, o.1 - w) os,
    )))
    (λ d. let l = is_not_less w o.1 d in rw (z, b, d) (omega (arith, total_after limit (w - o.1) os, sum_by-cons (λ (o : (ℕ × ℕ) × ℕ). o.1) o os)))))

-- What holds of all keys holds of those that are left.
keys_after : (P : ℕ × ℕ → Type 0) (limit w : ℕ) (s : Orders) → AllByRecursion (λ o. P o.0) s → AllByRecursion (λ o. P o.0) (after_fills limit w s)
keys_after P limit w [] a = tt
keys_after P limit w (o ∷ os) a = decided (w == 0) (λ z. rw z a)
    (λ z. decided (nat_lt limit o.0.0) (λ b. rw (z, b) a)
    (λ b. decided (nat_lt w o.1)
    (λ d. rw (z, b, d) (a.0, a.1))
    (λ d. rw (z, b, d) (keys_after P limit (w - o.1) os a.1))))

pub all_after : (P : ℕ × ℕ → Type 0) (limit w : ℕ) (s : Orders) → All (λ o. P o.0) s → All (λ o. P o.0) (after_fills limit w s)
all_after P limit w s h = All-from_recursion (λ o. P o.0) (after_fills limit w s) (keys_after P limit w s (recursion_from_All (λ o. P o.0) s h))

pub apart_after : (own others : Orders) (limit w : ℕ) → AreApart own others → AreApart own (after_fills limit w others)
apart_after own others limit w a = All-weaker (λ x. All (λ y. 2 ^ 64 - 1 < x.0.0 + y.0.0) others)
    (λ x. All (λ y. 2 ^ 64 - 1 < x.0.0 + y.0.0) (after_fills limit w others)) (λ x h. all_after (λ j. 2 ^ 64 - 1 < x.0.0 + j.0) limit w others h) own a
