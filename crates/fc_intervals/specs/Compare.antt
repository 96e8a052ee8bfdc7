-- Equality of stretches, which is that of their ends and of their values.
use Rattle.std.specs.Prelude.{Bool, ◌&&◌}
use Rattle.std.specs.Cmp.{IsPartialEquivalence, IsEquivalence, on_per, and_per, on_equiv, and_equiv}
use Rattle.fc_intervals.specs.declared.stretch.Stretch.{Stretch}

module _ {K V : Type 0} where
  -- The ends are equal, and so are the values.
  abbrev pub stretch_eq : (K → K → Bool) → (V → V → Bool) → Stretch K V → Stretch K V → Bool
  stretch_eq E F x y = E x.end y.end && F x.value y.value

  pub stretch_per : {E : K → K → Bool} {F : V → V → Bool} → IsPartialEquivalence E → IsPartialEquivalence F → IsPartialEquivalence (stretch_eq E F)
  stretch_per a b = and_per (on_per (λ x. x.end) a) (on_per (λ x. x.value) b)

  pub stretch_equiv : {E : K → K → Bool} {F : V → V → Bool} → IsEquivalence E → IsEquivalence F → IsEquivalence (stretch_eq E F)
  stretch_equiv a b = and_equiv (on_equiv (λ x. x.end) a) (on_equiv (λ x. x.value) b)
