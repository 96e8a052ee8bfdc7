-- Copies of stretches lie as the stretches do.
use Rattle.std.proofs.Common.{◌≡◌, true, List, [], ◌∷◌, sym, ap, ◌∙◌}
use Rattle.std.specs.List.{AllByRecursion, AllZip}
use Rattle.std.specs.Cmp.{IsTotalOrder}
use Rattle.std.specs.Ordering.{is_le}
use Rattle.std.specs.declared.cmp.Ordering.{Ordering}
use Rattle.std.specs.declared.cmp.Ordering.TheVariants.{Equal}
use Rattle.std.proofs.lemmas.Cmp.{alike_right}
use Rattle.fc_laws.specs.Words.{AreSame}
use Rattle.fc_intervals.specs.Copies.{SameStretch}
use Rattle.fc_intervals.specs.Stretches.{AreApart}
use Rattle.fc_intervals.specs.declared.stretch.Stretch.{Stretch}

module _ {K V : Type 0} (cmp : K → K → Ordering) (o : IsTotalOrder cmp) (same : K → K → Type 0) (same_value : V → V → Type 0)
    (tied : (a b : K) → same a b → cmp a b ≡ Equal) where
  between : (a b c d : K) → same a b → same c d → cmp a c ≡ cmp b d
  between a b c d p q = o.congr a b c (tied a b p) ∙ alike_right o c d b (tied c d q)

  abbrev Copies : List (K × Stretch K V) → List (K × Stretch K V) → Type 0
  Copies = AllZip (AreSame same (SameStretch same same_value))

  later : (x y : K) → same x y → (s t : List (K × Stretch K V)) → Copies s t
      → AllByRecursion (λ e. is_le (cmp x e.0) ≡ true) s → AllByRecursion (λ e. is_le (cmp y e.0) ≡ true) t
  later x y p [] [] c h = tt
  later x y p [] (f ∷ t) c h = absurd c
  later x y p (e ∷ s) [] c h = absurd c
  later x y p (e ∷ s) (f ∷ t) c h = (ap is_le (sym (between x y e.0 f.0 p c.0.0)) ∙ h.0, later x y p s t c.1 h.1)

  pub copies_apart : (s t : List (K × Stretch K V)) → Copies s t → AreApart cmp s → AreApart cmp t
  copies_apart [] [] c h = tt
  copies_apart [] (f ∷ t) c h = absurd c
  copies_apart (e ∷ s) [] c h = absurd c
  copies_apart (e ∷ s) (f ∷ t) c h =
      (sym (between e.0 f.0 e.1.end f.1.end c.0.0 c.0.1.0) ∙ h.0, later e.1.end f.1.end c.0.1.0 s t c.1 h.1, copies_apart s t c.1 h.2)
