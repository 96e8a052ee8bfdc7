-- The items of a list up to a query.
use Rattle.std.specs.Prelude.{List, filter}
use Rattle.std.specs.Ordering.{is_le}
use Rattle.std.specs.declared.cmp.Ordering.{Ordering}

-- The items that are not greater than the query, in order.
abbrev pub not_greater : {T Q : Type 0} → (T → Q → Ordering) → List T → Q → List T
not_greater cmp s q = filter (λ x. is_le (cmp x q)) s
