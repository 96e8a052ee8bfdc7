-- One write of a walk that writes.
use Rattle.std.proofs.Common.{◌≡◌, ℕ, ◌+◌, ◌-◌, ◌<◌, List, ◌∷◌, length, Bool, true, false, refl, ap, ◌∙◌, inl, inr, arith}
use Rattle.std.specs.Prelude.{nat_lt, min, IsTrue, ◌↔◌}
use Rattle.std.specs.Int.{from_bool}
use Rattle.std.specs.declared.cmp.Ordering.{Ordering}
use Rattle.std.specs.declared.ops.Bound.{Bound}
use Rattle.std.proofs.lemmas.Bool.{cases_lt}
use Rattle.std.proofs.lemmas.Bool.Decides.{nat_tests}
use Rattle.fc_base.specs.Ranges.{within}
use Rattle.fc_map.specs.Writing.{starting, Stretch, wrote, wrote_all, wrote_first, wrote_last}
use Rattle.fc_map.proofs.WritingFacts.{write_none}

module _ {K V : Type 0} where
  pub wrote_front : (t : Stretch K V) (v : V) → t.front < t.back → wrote t (true, v) ≡ wrote_first t v
  unfolding wrote
  wrote_front t v l = let p : nat_lt t.front t.back ≡ true = grind (arith, nat_tests) in rw p refl

  pub wrote_back : (t : Stretch K V) (v : V) → t.front < t.back → wrote t (false, v) ≡ wrote_last t v
  unfolding wrote
  wrote_back t v l = let p : nat_lt t.front t.back ≡ true = grind (arith, nat_tests) in rw p refl

  -- the other writes give what all gave
  pub wrote_more : (t n : Stretch K V) (w : Bool × V) (ws : List (Bool × V)) (s : List (K × V)) → n ≡ wrote t w → (wrote_all t (w ∷ ws)).list ≡ s
      → (wrote_all n ws).list ≡ s
  wrote_more t n w ws s e h = rw e h

  -- one place less is left, if there was one
  left_wrote : (t : Stretch K V) (w : Bool × V) → (wrote t w).back - (wrote t w).front ≡ (t.back - t.front) - 1
  left_wrote t (true, v) = elim (cases_lt t.front t.back) [
    | inl l ↦ ap (λ t. t.back - t.front) (wrote_front t v l) ∙ (omega (arith, l))
    | inr l ↦ ap (λ t. t.back - t.front) (write_none t (true, v) l) ∙ (omega (arith, l))
  ]
  left_wrote t (false, v) = elim (cases_lt t.front t.back) [
    | inl l ↦ ap (λ t. t.back - t.front) (wrote_back t v l) ∙ (omega (arith, l))
    | inr l ↦ ap (λ t. t.back - t.front) (write_none t (false, v) l) ∙ (omega (arith, l))
  ]

  pub places_more : (t n : Stretch K V) (w : Bool × V) (y places : ℕ) → n ≡ wrote t w → t.back - t.front ≡ places - y → n.back - n.front ≡ places - (y + 1)
  places_more t n w y places e h = rw e (omega (arith, left_wrote t w, h))

-- one write more, of y so far over n places
pub count_more : (lent : Bool) (count y n front back : ℕ) → count ≡ min y n → back - front ≡ n - y → (IsTrue lent ↔ (front < back))
    → count + from_bool lent ≡ min (y + 1) n
count_more true count y n front back e left is = omega (arith, is.0 refl)
count_more false count y n front back e left is = elim (cases_lt front back) [
  | inl l ↦ (let bad : false ≡ true = is.1 l in absurd cc)
  | inr l ↦ omega (arith, l)
]

-- a range has as many places to lend as pairs
pub places_within : {K V : Type 0} (cmp : K → K → Ordering) (lo hi : Bound K) (s : List (K × V))
    → (starting cmp lo hi s).back - (starting cmp lo hi s).front ≡ length (within cmp lo hi s)
places_within cmp lo hi s = omega arith
