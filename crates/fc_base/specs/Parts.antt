-- The parts of a list of pairs around a key, or around a query that keys stand to by an order.
use Rattle.std.specs.Prelude.{List, filter, find, Option}
use Rattle.std.specs.Option.{option_map}
use Rattle.std.specs.Ordering.{is_lt, is_eq, is_gt}
use Rattle.std.specs.declared.cmp.Ordering.{Ordering}

module _ {K Q V : Type 0} (cmp : K → Q → Ordering) where
  -- The pairs whose keys are smaller than the key, in order.
  abbrev pub below : List (K × V) → Q → List (K × V)
  below s k = filter (λ e. is_lt (cmp e.0 k)) s

  -- The pairs whose keys are greater than the key, in order.
  abbrev pub above : List (K × V) → Q → List (K × V)
  above s k = filter (λ e. is_gt (cmp e.0 k)) s

  -- The pair with an equal key, if there is one.
  abbrev pub at : List (K × V) → Q → Option (K × V)
  at s k = find (λ e. is_eq (cmp e.0 k)) s

  -- The value that stands at an equal key, if there is one.
  abbrev pub value_at : List (K × V) → Q → Option V
  value_at s k = option_map (λ e. e.1) (at s k)
