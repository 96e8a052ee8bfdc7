-- A set as contracts see it: the tree of a map whose keys are the set's items, and what the calls make of the list of these.
use Rattle.std.specs.Prelude.{◌≡◌, not, ◌&&◌, List, [], ◌∷◌, ◌++◌, Option, None, map, filter, find, length, unwrap_or}
use Rattle.std.specs.List.{AllByRecursion}
use Rattle.std.specs.Ordering.{is_lt, is_eq, is_gt, is_ge}
use Rattle.std.specs.declared.cmp.Ordering.{Ordering}
use Rattle.std.specs.declared.cmp.Ordering.TheVariants.{Less}
use Rattle.std.specs.declared.ops.Bound.{Bound}
use Rattle.fc_base.specs.declared.try_reserve_error.TryReserveError.{TryReserveError}
use Rattle.fc_base.specs.Growth.{MayGrowRefuse}
use Rattle.fc_base.specs.Ranges.{starts, stops}
use Rattle.fc_map.specs.Entries.{Map, entries}

-- The items of a set, in ascending order.
abbrev pub items : {T V Z : Type 0} → Map T V Z → List T
items s = map (λ e. e.0) (entries s)

-- How items stand to a query.
module _ {T Q : Type 0} (cmp : T → Q → Ordering) where
  -- The item that is equal to the query, if there is one.
  abbrev pub item_at : List T → Q → Option T
  item_at s q = find (λ x. is_eq (cmp x q)) s

  -- The items that are smaller than the query, in order.
  abbrev pub smaller : List T → Q → List T
  smaller s q = filter (λ x. is_lt (cmp x q)) s

  -- The items that are greater than the query, in order.
  abbrev pub greater : List T → Q → List T
  greater s q = filter (λ x. is_gt (cmp x q)) s

  -- The items that are not smaller than the query, in order.
  abbrev pub not_smaller : List T → Q → List T
  not_smaller s q = filter (λ x. is_ge (cmp x q)) s

  -- The items within two bounds, which are by queries, in order.
  abbrev pub items_within : Bound Q → Bound Q → List T → List T
  items_within lo hi s = filter (λ x. starts cmp lo x && stops cmp hi x) s

  -- The items that do not lie within two bounds, in order.
  abbrev pub items_outside : Bound Q → Bound Q → List T → List T
  items_outside lo hi s = filter (λ x. not (starts cmp lo x && stops cmp hi x)) s

  -- The list with others in the place of the items within two bounds.
  abbrev pub items_replacing : Bound Q → Bound Q → List T → List T → List T
  items_replacing lo hi others s = filter (λ x. not (starts cmp lo x)) s ++ (others ++ filter (λ x. starts cmp lo x && not (stops cmp hi x)) s)

  -- The list without the item that is equal to the query.
  abbrev pub without : List T → Q → List T
  without s q = smaller s q ++ greater s q

module _ {T : Type 0} (cmp : T → T → Ordering) where
  -- Each item is below all items that follow.
  abbrev pub AreAscending : List T → Type 0
  AreAscending [] = Unit {0}
  AreAscending (x ∷ s) = AllByRecursion (λ later. cmp x later ≡ Less) s × AreAscending s

  -- The list with the item: an equal one that is there stays.
  abbrev pub with_item : List T → T → List T
  with_item s x = smaller cmp s x ++ unwrap_or (item_at cmp s x) x ∷ greater cmp s x

  -- The list with the item in the place of an equal one, or else where it belongs.
  abbrev pub with_replaced : List T → T → List T
  with_replaced s x = smaller cmp s x ++ x ∷ greater cmp s x

  -- The first list with each item of the second: of equal items, the second's stays.
  abbrev pub joined_items : List T → List T → List T
  joined_items s [] = s
  joined_items s (x ∷ t) = joined_items (with_replaced s x) t

  -- The list with the items put in, in turn.
  abbrev pub extended_items : List T → List T → List T
  extended_items s [] = s
  extended_items s (x ∷ t) = extended_items (with_item s x) t

  -- A front of the items was put in, and the item after it, which is new, may be refused there with this error.
  pub record AreExtendedUpTo (old given new : List T) (e : TryReserveError) : Type 0 where
    pub front : List T
    pub item : T
    pub rest : List T
    pub taken : given ≡ front ++ item ∷ rest
    pub put_in : new ≡ extended_items old front
    pub new_item : item_at cmp new item ≡ None
    pub error : MayGrowRefuse (length new) e
