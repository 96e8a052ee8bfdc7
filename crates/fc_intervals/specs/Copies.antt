-- Copies of stretches, by what is the same of ends and of values.
use Rattle.std.specs.Prelude.{◌⊎◌}
use Rattle.fc_base.specs.declared.try_reserve_error.TryReserveError.{TryReserveError}
use Rattle.fc_intervals.specs.declared.stretch.Stretch.{Stretch}

module _ {K V : Type 0} where
  -- The ends are the same, and so are the values.
  abbrev pub SameStretch : (K → K → Type 0) → (V → V → Type 0) → Stretch K V → Stretch K V → Type 0
  SameStretch same_end same_value x y = same_end x.end y.end × same_value x.value y.value

  -- By which error a copy of a stretch may be refused: one of the end's own, or of the value's.
  abbrev pub MayRefuseStretch : (K → TryReserveError → Type 0) → (V → TryReserveError → Type 0) → Stretch K V → TryReserveError → Type 0
  MayRefuseStretch refuses_end refuses_value x e = refuses_end x.end e ⊎ refuses_value x.value e
