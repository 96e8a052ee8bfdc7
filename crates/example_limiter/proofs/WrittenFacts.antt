-- What is kept of each client once the times of one were written.
use Rattle.std.proofs.Common.{◌≡◌, ℕ, Bool, true, false, cond, List, Some, Ok, Err, nat_eq, refl, sym, ap, ◌∙◌}
use Rattle.std.proofs.lemmas.Bool.{eqb-true}
use Rattle.std.specs.Prelude.{◌≢◌, Result, OnOk}
use Rattle.fallible_collections.specs.Words.{Vector, hashed_value_at}

-- What holds holds where a call was Ok.
pub on_ok : {A E P : Type 0} (r : Result A E) → P → OnOk r P
on_ok (Ok x) p = p
on_ok (Err e) p = tt

module _ (ps qs : List (ℕ × Vector ℕ)) (client : ℕ) (written : Vector ℕ)
    (values : (q : ℕ) → hashed_value_at nat_eq q qs ≡ cond (nat_eq client q) (Some written) (hashed_value_at nat_eq q ps)) where
  other_at : (q : ℕ) (b : Bool) → nat_eq client q ≡ b → q ≢ client → hashed_value_at nat_eq q qs ≡ hashed_value_at nat_eq q ps
  other_at q true e differs = absurd (differs (sym (eqb-true client q e)))
  other_at q false e differs = values q ∙ ap (λ b. cond b (Some written) (hashed_value_at nat_eq q ps)) e

  -- Other clients keep their times.
  pub other_kept : (q : ℕ) → q ≢ client → hashed_value_at nat_eq q qs ≡ hashed_value_at nat_eq q ps
  other_kept q differs = other_at q (nat_eq client q) refl differs

  same_at : Some written ≡ hashed_value_at nat_eq client ps → (q : ℕ) (b : Bool) → nat_eq client q ≡ b
      → hashed_value_at nat_eq q qs ≡ hashed_value_at nat_eq q ps
  same_at was q true e = values q ∙ ap (λ b. cond b (Some written) (hashed_value_at nat_eq q ps)) e ∙ was
      ∙ ap (λ k. hashed_value_at nat_eq k ps) (eqb-true client q e)
  same_at was q false e = values q ∙ ap (λ b. cond b (Some written) (hashed_value_at nat_eq q ps)) e

  -- Where the times are those that were there, all clients keep theirs.
  pub all_kept : Some written ≡ hashed_value_at nat_eq client ps → (q : ℕ) → hashed_value_at nat_eq q qs ≡ hashed_value_at nat_eq q ps
  all_kept was q = same_at was q (nat_eq client q) refl
