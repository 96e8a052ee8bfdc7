-- The laws of the orders of unsigned numbers and of tuples, as `(u64, u64)`: of tuples the first parts decide, and where these are equal, the second.
-- Of numbers they are std's, which `using(..)` can't name.
-- A caller names one on a function, as `#[tactic(auto, using(fc_laws::proofs::Laws::number_tuple_less))]`, or cites it in an answer.
use Rattle.std.proofs.Common.{◌≡◌, ℕ, ◌<◌, ◌≤◌, ◌⊎◌, ◌↔◌, true, inl, inr, refl, arith}
use Rattle.std.specs.Cmp.{IsTotalOrder}
use Rattle.std.specs.Ordering.{nat_cmp, ordering_then, is_le, is_ge}
use Rattle.std.specs.declared.cmp.Ordering.{Ordering}
use Rattle.std.specs.declared.cmp.Ordering.TheVariants.{Less, Equal, Greater}
use Rattle.std.proofs.lemmas.Bool.Decides.{nat_tests}
use Rattle.std.proofs.lemmas.Cmp.{nat_cmp_total, on_total, then_total}

-- one of the two that decide is an answer that is not Equal
decided : (first second r : Ordering) → ¬ (r ≡ Equal) → (ordering_then first second ≡ r) ↔ ((first ≡ r) ⊎ ((first ≡ Equal) × (second ≡ r)))
decided Less second r n = (inl, λ h. elim h as (λ _. Less ≡ r) [ inl e ↦ e | inr p ↦ absurd (let no = p.0 in cc) ])
decided Equal second r n = (λ h. inr (refl, h), λ h. elim h as (λ _. second ≡ r) [ inl e ↦ absurd (n (let back = e in cc)) | inr p ↦ p.1 ])
decided Greater second r n = (inl, λ h. elim h as (λ _. Greater ≡ r) [ inl e ↦ e | inr p ↦ absurd (let no = p.0 in cc) ])

both : (first second : Ordering) → (ordering_then first second ≡ Equal) ↔ ((first ≡ Equal) × (second ≡ Equal))
both Less second = (λ h. absurd cc, λ h. absurd (let n = h.0 in cc))
both Equal second = (λ h. (refl, h), λ h. h.1)
both Greater second = (λ h. absurd cc, λ h. absurd (let n = h.0 in cc))

module _ {A B : Type 0} (P : A → A → Ordering) (Q : B → B → Ordering) where
  -- A tuple is below another where its first part is, or where the first parts are equal and its second part is below.
  pub tuple_less : (a c : A) (b d : B) → (ordering_then (P a c) (Q b d) ≡ Less) ↔ ((P a c ≡ Less) ⊎ ((P a c ≡ Equal) × (Q b d ≡ Less)))
  tuple_less a c b d = decided (P a c) (Q b d) Less (λ e. absurd cc)

  -- A tuple is equal to another where both parts are.
  pub tuple_equal : (a c : A) (b d : B) → (ordering_then (P a c) (Q b d) ≡ Equal) ↔ ((P a c ≡ Equal) × (Q b d ≡ Equal))
  tuple_equal a c b d = both (P a c) (Q b d)

  -- A tuple is above another where its first part is, or where the first parts are equal and its second part is above.
  pub tuple_greater : (a c : A) (b d : B) → (ordering_then (P a c) (Q b d) ≡ Greater) ↔ ((P a c ≡ Greater) ⊎ ((P a c ≡ Equal) × (Q b d ≡ Greater)))
  tuple_greater a c b d = decided (P a c) (Q b d) Greater (λ e. absurd cc)

  -- The order of tuples is total where those of both parts are.
  pub tuple_total : IsTotalOrder P → IsTotalOrder Q → IsTotalOrder (λ (x y : A × B). ordering_then (P x.0 y.0) (Q x.1 y.1))
  tuple_total p q = then_total (on_total (λ t. t.0) p) (on_total (λ t. t.1) q)

at_most : (r : Ordering) → (is_le r ≡ true) ↔ ((r ≡ Less) ⊎ (r ≡ Equal))
at_most Less = (λ h. inl refl, λ h. refl)
at_most Equal = (λ h. inr refl, λ h. refl)
at_most Greater = (λ h. absurd cc, λ h. elim h as (λ _. is_le Greater ≡ true) [ inl e ↦ absurd cc | inr e ↦ absurd cc ])

at_least : (r : Ordering) → (is_ge r ≡ true) ↔ ((r ≡ Greater) ⊎ (r ≡ Equal))
at_least Less = (λ h. absurd cc, λ h. elim h as (λ _. is_ge Less ≡ true) [ inl e ↦ absurd cc | inr e ↦ absurd cc ])
at_least Equal = (λ h. inr refl, λ h. refl)
at_least Greater = (λ h. inl refl, λ h. refl)

-- The order of unsigned numbers is total.
pub number_total : IsTotalOrder nat_cmp
number_total = nat_cmp_total

-- What it says that a number is below another, as the key that `last_before` answers.
pub number_less : (a b : ℕ) → (nat_cmp a b ≡ Less) ↔ (a < b)
number_less a b = (λ h. grind (arith, nat_tests), λ h. grind (arith, nat_tests))

-- What it says that two unsigned numbers are equal keys.
pub number_equal : (a b : ℕ) → (nat_cmp a b ≡ Equal) ↔ (a ≡ b)
number_equal a b = (λ h. grind (arith, nat_tests), λ h. grind (arith, nat_tests))

-- What it says that a number is above another, as the key that `first_after` answers.
pub number_greater : (a b : ℕ) → (nat_cmp a b ≡ Greater) ↔ (b < a)
number_greater a b = (λ h. grind (arith, nat_tests), λ h. grind (arith, nat_tests))

-- What it says that a number is not above another, as the key that `last_at_or_before` answers.
pub number_at_most : (a b : ℕ) → (is_le (nat_cmp a b) ≡ true) ↔ (a ≤ b)
number_at_most a b = grind (arith, at_most, number_less, number_equal)

-- What it says that a number is not below another, as the key that `first_at_or_after` answers.
pub number_at_least : (a b : ℕ) → (is_ge (nat_cmp a b) ≡ true) ↔ (b ≤ a)
number_at_least a b = grind (arith, at_least, number_greater, number_equal)

-- The order of tuples of unsigned numbers is total.
pub number_tuple_total : IsTotalOrder (λ (x y : ℕ × ℕ). ordering_then (nat_cmp x.0 y.0) (nat_cmp x.1 y.1))
number_tuple_total = tuple_total nat_cmp nat_cmp nat_cmp_total nat_cmp_total

module _ (a c b d : ℕ) where
  -- A tuple of unsigned numbers is below another where its first part is less, or where the first parts are the same and its second part is less.
  pub number_tuple_less : (ordering_then (nat_cmp a c) (nat_cmp b d) ≡ Less) ↔ ((a < c) ⊎ ((a ≡ c) × (b < d)))
  number_tuple_less = grind (arith, tuple_less nat_cmp nat_cmp a c b d, number_less, number_equal)

  -- A tuple of unsigned numbers is equal to another where both parts are the same.
  pub number_tuple_equal : (ordering_then (nat_cmp a c) (nat_cmp b d) ≡ Equal) ↔ ((a ≡ c) × (b ≡ d))
  number_tuple_equal = grind (arith, tuple_equal nat_cmp nat_cmp a c b d, number_equal)

  -- A tuple of unsigned numbers is above another where its first part is greater, or where the first parts are the same and its second part is greater.
  pub number_tuple_greater : (ordering_then (nat_cmp a c) (nat_cmp b d) ≡ Greater) ↔ ((c < a) ⊎ ((a ≡ c) × (d < b)))
  number_tuple_greater = grind (arith, tuple_greater nat_cmp nat_cmp a c b d, number_greater, number_equal)

  -- What it says that a tuple of unsigned numbers is not above another, as the key that `last_at_or_before` answers.
  pub number_tuple_at_most : (is_le (ordering_then (nat_cmp a c) (nat_cmp b d)) ≡ true) ↔ ((a < c) ⊎ ((a ≡ c) × (b ≤ d)))
  number_tuple_at_most = grind (arith, at_most, number_tuple_less, number_tuple_equal)

  -- What it says that a tuple of unsigned numbers is not below another, as the key that `first_at_or_after` answers.
  pub number_tuple_at_least : (is_ge (ordering_then (nat_cmp a c) (nat_cmp b d)) ≡ true) ↔ ((c < a) ⊎ ((a ≡ c) × (d ≤ b)))
  number_tuple_at_least = grind (arith, at_least, number_tuple_greater, number_tuple_equal)
