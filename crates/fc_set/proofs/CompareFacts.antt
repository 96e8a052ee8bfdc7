-- Equality, order and hash of pairs whose values are all alike are those of their keys.
use Rattle.std.proofs.Common.{◌≡◌, Bool, true, false, List, [], ◌∷◌, Option, Some, None, refl}
use Rattle.std.specs.Prelude.{◌&&◌}
use Rattle.std.specs.Cmp.Lexicographic.{pointwise, slice_cmp, slice_partial_cmp}
use Rattle.std.specs.Ordering.{ordering_then, partial_ordering_then}
use Rattle.std.specs.declared.cmp.Ordering.{Ordering}
use Rattle.std.specs.declared.cmp.Ordering.TheVariants.{Less, Equal, Greater}
use Rattle.fc_map.specs.Compare.{pair_eq, pair_cmp, pair_partial_cmp}
use Rattle.fc_set.proofs.ItemFacts.{keys}

module _ {T V : Type 0} where
  pub eq_keys : (E : T → T → Bool) (s t : List (T × V)) → pointwise (pair_eq E (λ _ _. true)) s t ≡ pointwise E (keys s) (keys t)
  eq_keys E [] [] = refl
  eq_keys E [] (f ∷ t) = refl
  eq_keys E (e ∷ s) [] = refl
  eq_keys E (e ∷ s) (f ∷ t) = go (E e.0 f.0) (eq_keys E s t)
    where
      go : (b : Bool) → pointwise (pair_eq E (λ _ _. true)) s t ≡ pointwise E (keys s) (keys t)
          → ((b && true) && pointwise (pair_eq E (λ _ _. true)) s t) ≡ (b && pointwise E (keys s) (keys t))
      go true i = i
      go false i = refl

  pub cmp_keys : (R : T → T → Ordering) (s t : List (T × V)) → slice_cmp (pair_cmp R (λ _ _. Equal)) s t ≡ slice_cmp R (keys s) (keys t)
  cmp_keys R [] [] = refl
  cmp_keys R [] (f ∷ t) = refl
  cmp_keys R (e ∷ s) [] = refl
  cmp_keys R (e ∷ s) (f ∷ t) = go (R e.0 f.0) (cmp_keys R s t)
    where
      go : (r : Ordering) → slice_cmp (pair_cmp R (λ _ _. Equal)) s t ≡ slice_cmp R (keys s) (keys t)
          → ordering_then (ordering_then r Equal) (slice_cmp (pair_cmp R (λ _ _. Equal)) s t) ≡ ordering_then r (slice_cmp R (keys s) (keys t))
      go Less i = refl
      go Equal i = i
      go Greater i = refl

  pub partial_cmp_keys : (C : T → T → Option Ordering) (s t : List (T × V))
      → slice_partial_cmp (pair_partial_cmp C (λ _ _. Some Equal)) s t ≡ slice_partial_cmp C (keys s) (keys t)
  partial_cmp_keys C [] [] = refl
  partial_cmp_keys C [] (f ∷ t) = refl
  partial_cmp_keys C (e ∷ s) [] = refl
  partial_cmp_keys C (e ∷ s) (f ∷ t) = go (C e.0 f.0) (partial_cmp_keys C s t)
    where
      go : (r : Option Ordering) → slice_partial_cmp (pair_partial_cmp C (λ _ _. Some Equal)) s t ≡ slice_partial_cmp C (keys s) (keys t)
          → partial_ordering_then (partial_ordering_then r (Some Equal)) (slice_partial_cmp (pair_partial_cmp C (λ _ _. Some Equal)) s t)
          ≡ partial_ordering_then r (slice_partial_cmp C (keys s) (keys t))
      go None i = refl
      go (Some Less) i = refl
      go (Some Equal) i = i
      go (Some Greater) i = refl
