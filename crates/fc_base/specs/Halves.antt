-- The part of a list of pairs from a key on, or from a query on that keys stand to by an order.
use Rattle.std.specs.Prelude.{List, filter}
use Rattle.std.specs.Ordering.{is_ge}
use Rattle.std.specs.declared.cmp.Ordering.{Ordering}

-- The pairs whose keys are not smaller than the key, in order.
abbrev pub not_below : {K Q V : Type 0} → (K → Q → Ordering) → List (K × V) → Q → List (K × V)
not_below cmp s k = filter (λ e. is_ge (cmp e.0 k)) s
