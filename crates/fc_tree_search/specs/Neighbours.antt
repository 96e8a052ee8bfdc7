-- The first and the last pair of a list, and its part up to a query.
use Rattle.std.specs.Prelude.{◌-◌, List, length, filter, Option, slice_get}
use Rattle.std.specs.Ordering.{is_le}
use Rattle.std.specs.declared.cmp.Ordering.{Ordering}

module _ {X : Type 0} where
  -- The first item, if there is one.
  abbrev pub first_item : List X → Option X
  first_item s = slice_get s 0

  -- The last item, if there is one.
  abbrev pub last_item : List X → Option X
  last_item s = slice_get s (length s - 1)

-- The pairs whose keys are not greater than the key, in order.
abbrev pub not_above : {K Q V : Type 0} → (K → Q → Ordering) → List (K × V) → Q → List (K × V)
not_above cmp s k = filter (λ e. is_le (cmp e.0 k)) s
