-- Stretches of a range without an end.
use Rattle.std.specs.Prelude.{List, filter}
use Rattle.std.specs.Ordering.{is_lt}
use Rattle.std.specs.declared.cmp.Ordering.{Ordering}
use Rattle.fc_intervals.specs.declared.stretch.Stretch.{Stretch}

-- The stretches that have a point in common with the range from a point on, in order: those that end after it.
abbrev pub overlapping_from : {K V : Type 0} → (K → K → Ordering) → List (K × Stretch K V) → K → List (K × Stretch K V)
overlapping_from cmp s from = filter (λ e. is_lt (cmp from e.1.end)) s
