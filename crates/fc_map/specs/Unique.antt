-- What entries and walks keep of their places holds in one way only.
use Rattle.std.specs.Prelude.{ℕ, List, [], ◌∷◌, Some, None}
use Rattle.std.specs.Coded.{×_prop, Π_prop, Unit-prop, le_prop}
use Rattle.std.proofs.Props.{props}
use Rattle.std.specs.declared.cmp.Ordering.{Ordering}
use Rattle.fc_tree_node.specs.declared.node.Node.{Node}
use Rattle.fc_tree_node.specs.Node.{child_at}
use Rattle.fc_tree_node.specs.Path.{IsPath}
use Rattle.fc_tree_node.specs.Place.{IsPlace}
use Rattle.fc_map.specs.Entries.{Map}
use Rattle.fc_tree_cursor.specs.Gap.{IsGapIn, AreEndsIn}
use Rattle.fc_tree_node.specs.TreePlace.{IsPlaceIn}
use Rattle.fc_map.specs.KeptPlace.{IsKeptPlace, all_written}
use Rattle.fc_map.specs.Place.{IsOpenAt}

module _ {K V Z : Type 0} where
  -- That each step of a path is a place or the one after them.
  way-prop : (path : List ℕ) (n : Node K V Z) → IsProp (IsPath path n)
  way-prop [] n = Unit-prop
  way-prop (i ∷ path) n = ×_prop le_prop (way-prop path (child_at n i))

  -- That a path leads to a pair of the tree below a node.
  end-prop : (path : List ℕ) (n : Node K V Z) → IsProp (IsPlace path n)
  end-prop [] n = λ x. absurd x
  end-prop (i ∷ []) n = le_prop
  end-prop (i ∷ j ∷ path) n = ×_prop le_prop (end-prop (j ∷ path) (child_at n i))

  -- That a path leads to a pair of a map.
  place-prop : (m : Map K V Z) (path : List ℕ) → IsProp (IsPlaceIn m path)
  place-prop None path = λ x. absurd x
  place-prop (Some root) path = end-prop path root

  -- That it does so whatever values are written there.
  pub kept-prop : (m : Map K V Z) (path : List ℕ) → IsProp (IsKeptPlace m path)
  kept-prop m path = Π_prop (λ values. place-prop (all_written m path values) path)

  -- That a path leads to the gap of a key in a map.
  pub open-prop : (cmp : K → K → Ordering) (k : K) (m : Map K V Z) (path : List ℕ) → IsProp (IsOpenAt cmp k m path)
  open-prop cmp k None path = hlevel props
  open-prop cmp k (Some root) path = hlevel (props, way-prop path root)

  -- That a path leads to a gap of a map.
  pub gap-prop : (m : Map K V Z) (path : List ℕ) → IsProp (IsGapIn m path)
  gap-prop None path = hlevel props
  gap-prop (Some root) path = hlevel (props, way-prop path root)

  -- That two paths lead to gaps of a map, the first to no later one.
  pub ends-prop : (m : Map K V Z) (front back : List ℕ) → IsProp (AreEndsIn m front back)
  ends-prop m front back = hlevel (props, gap-prop m front, gap-prop m back)
