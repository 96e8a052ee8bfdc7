-- Equality of rows.
use Rattle.std.specs.Prelude.{Bool, ◌&&◌}
use Rattle.std.specs.Cmp.{IsEquivalence, IsPartialEquivalence, on_per, on_equiv, and_per, and_equiv}
use Rattle.fc_index.specs.declared.keyed.Keyed.{Keyed}

module _ {A B V : Type 0} where
  -- Whether both keys are equal, and the values.
  abbrev pub keyed_eq : (A → A → Bool) → (B → B → Bool) → (V → V → Bool) → Keyed A B V → Keyed A B V → Bool
  keyed_eq E F G p q = E p.first q.first && (F p.second q.second && G p.value q.value)

  pub keyed_per : {E : A → A → Bool} {F : B → B → Bool} {G : V → V → Bool} → IsPartialEquivalence E → IsPartialEquivalence F → IsPartialEquivalence G
      → IsPartialEquivalence (keyed_eq E F G)
  keyed_per a b c = and_per (on_per (λ p. p.first) a) (and_per (on_per (λ p. p.second) b) (on_per (λ p. p.value) c))

  pub keyed_equiv : {E : A → A → Bool} {F : B → B → Bool} {G : V → V → Bool} → IsEquivalence E → IsEquivalence F → IsEquivalence G
      → IsEquivalence (keyed_eq E F G)
  keyed_equiv a b c = and_equiv (on_equiv (λ p. p.first) a) (and_equiv (on_equiv (λ p. p.second) b) (on_equiv (λ p. p.value) c))
