-- By which error vectors refuse a growth.
use Rattle.std.proofs.Common.{◌≡◌, ℕ, ◌+◌, ◌<◌, ◌≤◌, ◌⊎◌, true, List, [], ◌∷◌, ◌++◌, length, ap, ◌∙◌, inl, inr, arith}
use Rattle.std.proofs.lemmas.Bool.{cases_lt}
use Rattle.std.specs.Prelude.{nat_le, if◌then◌else◌}
use Rattle.fc_base.specs.declared.try_reserve_error.TryReserveError.{TryReserveError}
use Rattle.fc_base.specs.declared.try_reserve_error.TryReserveError.TheVariants.{CapacityOverflow, AllocError}
use Rattle.fc_vec.specs.Vectors.{MayRefuse}

-- Where the lengths fit together, a refusal is for want of memory.
pub no_overflow : (room m n : ℕ) (e : TryReserveError) → m + n ≤ 18446744073709551615 → MayRefuse room m n e → e ≡ AllocError
no_overflow room m n e h r = let fits : nat_le (m + n) 18446744073709551615 ≡ true = grind (arith, h) in r.1
    ∙ ap (λ b. if b then AllocError else CapacityOverflow) fits

-- A list that ends with an item is not empty.
pub some_taken : {A : Type 0} (xs : List A) (x : A) → 0 < length (xs ++ x ∷ [])
some_taken [] x = omega arith
some_taken (y ∷ ys) x = omega arith

-- What follows from either of two facts.
pub either : {A B C : Type 0} → A ⊎ B → (A → C) → (B → C) → C
either (inl a) f g = f a
either (inr b) f g = g b

-- What is not below a number is at least that.
pub not_below : (a b : ℕ) → ¬ (a < b) → b ≤ a
not_below a b h = either (cases_lt a b) (λ l. absurd (h l)) (λ m. m)
