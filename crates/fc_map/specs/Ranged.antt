-- The pairs of a list around the part that lies within two bounds.
use Rattle.std.specs.Prelude.{not, ◌&&◌, List, ◌++◌, filter}
use Rattle.std.specs.declared.cmp.Ordering.{Ordering}
use Rattle.std.specs.declared.ops.Bound.{Bound}
use Rattle.fc_base.specs.Ranges.{starts, stops}

-- The bounds are keys, or queries that keys stand to by an order.
module _ {K Q : Type 0} (cmp : K → Q → Ordering) where
  -- The pairs whose keys are before the start, in order.
  abbrev pub before_range : {V : Type 0} → Bound Q → List (K × V) → List (K × V)
  before_range lo s = filter (λ e. not (starts cmp lo e.0)) s

  -- The pairs whose keys are after the end and not before the start, in order.
  abbrev pub after_range : {V : Type 0} → Bound Q → Bound Q → List (K × V) → List (K × V)
  after_range lo hi s = filter (λ e. starts cmp lo e.0 && not (stops cmp hi e.0)) s

  -- The pairs whose keys do not lie within both bounds, in order.
  abbrev pub outside : {V : Type 0} → Bound Q → Bound Q → List (K × V) → List (K × V)
  outside lo hi s = filter (λ e. not (starts cmp lo e.0 && stops cmp hi e.0)) s

  -- The list with others in the place of the pairs whose keys lie within both bounds.
  abbrev pub replacing : {V : Type 0} → Bound Q → Bound Q → List (K × V) → List (K × V) → List (K × V)
  replacing lo hi others s = before_range lo s ++ (others ++ after_range lo hi s)
