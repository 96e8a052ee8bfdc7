use Rattle.std.proofs.Common.{◌≡◌, Bool, true, ◌&&◌, List, [], ◌∷◌, IsTrue, refl, sym, ◌∙◌}
use Rattle.std.proofs.lemmas.Bool.{false≢true}
use Rattle.std.specs.List.{AllZip}
use Rattle.std.specs.Cmp.{first_so, second_so}
use Rattle.std.specs.Cmp.Lexicographic.{pointwise}
use Rattle.fc_map.specs.Compare.{pair_eq}
use Rattle.callers_of_map.proofs.compare.are_equal.Goals as goal

module _ {K V : Type 0} (E : K → K → Bool) (F : V → V → Bool) where
  abbrev AreEqual : List (K × V) → List (K × V) → Type 0
  AreEqual = AllZip (λ p q. IsTrue (E p.0 q.0) × IsTrue (F p.1 q.1))

  equal_at : (s t : List (K × V)) → pointwise (pair_eq E F) s t ≡ true → AreEqual s t
  equal_at [] [] h = tt
  equal_at [] (q ∷ t) h = absurd (false≢true h)
  equal_at (p ∷ s) [] h = absurd (false≢true h)
  equal_at (p ∷ s) (q ∷ t) h =
      let here = first_so (pair_eq E F p q) (pointwise (pair_eq E F) s t) h in (
        (first_so (E p.0 q.0) (F p.1 q.1) here, second_so (E p.0 q.0) (F p.1 q.1) here),
        equal_at s t (second_so (pair_eq E F p q) (pointwise (pair_eq E F) s t) h),
      )

  equal_from : (s t : List (K × V)) → AreEqual s t → pointwise (pair_eq E F) s t ≡ true
  equal_from [] [] a = refl
  equal_from [] (q ∷ t) a = absurd a
  equal_from (p ∷ s) [] a = absurd a
  equal_from (p ∷ s) (q ∷ t) a = λ i. (a.0.0 i && a.0.1 i) && equal_from s t a.1 i

pub returns : goal.returns
returns g c =
    (λ t. equal_at g.K.PartialEq.eq g.V.PartialEq.eq _ _ (sym c.eq.ensures ∙ t), λ a. c.eq.ensures ∙ equal_from g.K.PartialEq.eq g.V.PartialEq.eq _ _ a)
