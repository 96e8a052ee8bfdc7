-- The set operations: what they make of two ascending lists of items. A call may walk both sets or look each item up; the list is the same.
use Rattle.std.specs.Prelude.{List, filter, is_none, is_some, length, nat_le, if◌then◌else◌}
use Rattle.std.specs.declared.cmp.Ordering.{Ordering}
use Rattle.fc_set.specs.Items.{item_at, joined_items}

module _ {T : Type 0} (cmp : T → T → Ordering) where
  -- The items of the first with no equal in the second.
  abbrev pub difference : List T → List T → List T
  difference s t = filter (λ x. is_none (item_at cmp t x)) s

  -- The items of the first with an equal in the second.
  abbrev pub common : List T → List T → List T
  common s t = filter (λ x. is_some (item_at cmp t x)) s

  -- The items of either that have no equal in the other.
  abbrev pub symmetric_difference : List T → List T → List T
  symmetric_difference s t = joined_items cmp (difference s t) (difference t s)

  -- The items of the shorter with an equal in the other: those of the first where both are as long.
  abbrev pub intersection : List T → List T → List T
  intersection s t = if nat_le (length s) (length t) then common s t else common t s

  -- The items of both: of equal ones the first's stays.
  abbrev pub union : List T → List T → List T
  union s t = joined_items cmp t s
