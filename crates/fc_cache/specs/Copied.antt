-- Copies of entries.
use Rattle.std.specs.Prelude.{◌≡◌, List}
use Rattle.std.specs.List.{AllZip}
use Rattle.fc_base.specs.declared.try_reserve_error.TryReserveError.{TryReserveError}
use Rattle.fc_base.specs.Copies.{MayRefuseCopies, MayRefusePair}
use Rattle.fc_cache.specs.declared.held.Held.{Held}

module _ {K V : Type 0} where
  -- The entries qs are copies of the entries ps, in the same order and at the same costs.
  abbrev pub AreCopies : (K → K → Type 0) → (V → V → Type 0) → List (K × Held V) → List (K × Held V) → Type 0
  AreCopies same_key same_value = AllZip (λ p q. same_key p.0 q.0 × same_value p.1.value q.1.value × (q.1.cost ≡ p.1.cost))

  -- By which error a copy of these entries may be refused.
  abbrev pub MayRefuseEntries : (K → TryReserveError → Type 0) → (V → TryReserveError → Type 0) → List (K × Held V) → TryReserveError → Type 0
  MayRefuseEntries refuses_key refuses_value = MayRefuseCopies (MayRefusePair refuses_key (λ h. refuses_value h.value))
