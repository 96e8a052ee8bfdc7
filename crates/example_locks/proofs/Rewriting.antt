-- What is held once an owner gave up the bytes of a range and got those at its end back as one stretch.
use Rattle.std.proofs.Common.{◌≡◌, ◌∙◌, ℕ, ◌≤◌, ◌<◌, ◌⊎◌, inl, inr, cond, List, Option, None, Some, refl, ap, arith}
use Rattle.std.specs.Ordering.{nat_cmp}
use Rattle.std.proofs.lemmas.Bool.{eq-eqb}
use Rattle.fallible_collections.specs.Words.{put}
use Rattle.example_locks.specs.Held.{holder_of, without, IsReleased, IsRewritten}
use Rattle.example_locks.proofs.Lasts.{IsOwn}
use Rattle.example_locks.proofs.Steps.{put_apart, put_inside, put_outside}

module _ (old mid : List (ℕ × (ℕ × ℕ))) (start kept end owner : ℕ) (order : start ≤ kept) (r : IsReleased old mid start end owner) where
  -- nothing is given back
  pub rewritten_none : kept ≤ end → end ≤ kept → IsRewritten old mid start kept end owner
  rewritten_none l g = record {
    apart = r.apart;
    given_up = λ b f t. r.inside b f (omega arith);
    given = λ b f t. absurd (omega arith);
    outside = r.outside;
  }

  module _ (some : kept < end) (free : IsOwn old kept end owner) where
    nobody_holds : (b : ℕ) → kept ≤ b → b < end → holder_of mid b ≡ None
    nobody_holds b f t = r.inside b (omega arith) t ∙ go (holder_of old b) (free b f t)
      where
        go : (h : Option ℕ) → ((o : ℕ) → h ≡ Some o → o ≡ owner) → without owner h ≡ None
        go None own = refl
        go (Some o) own = ap (λ z. cond z None (Some o)) (eq-eqb o owner (own o refl))

    outside : (b : ℕ) → (b < kept) ⊎ (end ≤ b) → holder_of (put nat_cmp mid kept (end, owner)) b ≡ holder_of mid b
    outside = put_outside mid r.apart kept end owner some nobody_holds

    pub rewritten : IsRewritten old (put nat_cmp mid kept (end, owner)) start kept end owner
    rewritten = record {
      apart = put_apart mid r.apart kept end owner some nobody_holds;
      given_up = λ b f t. outside b (inl t) ∙ r.inside b f (omega arith);
      given = put_inside mid r.apart kept end owner some nobody_holds;
      outside = λ b o. outside b (wider o) ∙ r.outside b o;
    }
      where
        wider : {b : ℕ} → (b < start) ⊎ (end ≤ b) → (b < kept) ⊎ (end ≤ b)
        wider (inl n) = inl (omega arith)
        wider (inr n) = inr n
