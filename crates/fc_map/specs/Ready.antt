-- When an insertion is ready: its nodes are made, and the map may have one pair more.
use Rattle.std.specs.Prelude.{◌≡◌, ℕ, ◌-◌, ◌^◌, ◌<◌, List, length, Option, Some, None}
use Rattle.std.proofs.Props.{props}
use Rattle.std.specs.declared.cmp.Ordering.{Ordering}
use Rattle.fc_tree_insertion.specs.Cascade.{nodes_needed}
use Rattle.fc_map.specs.Entries.{Map, entries}
use Rattle.fc_map.specs.Place.{IsHeldAt, IsOpenAt}
use Rattle.fc_map.specs.Unique.{open-prop}

module _ {K V Z : Type 0} where
  -- How many nodes an insertion takes at the gap that the path leads to: a leaf where there is no root.
  abbrev pub nodes_for : Map K V Z → List ℕ → ℕ
  nodes_for None path = 1
  nodes_for (Some root) path = nodes_needed path root

  -- As many nodes are made as the insertion takes, and the length can be counted up.
  abbrev pub AreNodesFor : Map K V Z → List ℕ → ℕ → Type 0
  AreNodesFor m path made = (made ≡ nodes_for m path) × (length (entries m) < 2 ^ 64 - 1)

  -- The path leads to the gap of k, and what an insertion there takes is made.
  abbrev pub IsReadyAt : (K → K → Ordering) → K → Map K V Z → List ℕ → ℕ → Type 0
  IsReadyAt cmp k m path made = IsOpenAt cmp k m path × AreNodesFor m path made

  -- The path leads to the pair with a key equal to k, for which nothing is made, or to its gap, and what an insertion there takes is made.
  abbrev pub IsPrepared : (K → K → Ordering) → K → Map K V Z → List ℕ → Option ℕ → Type 0
  IsPrepared cmp k m path None = IsHeldAt cmp k m path
  IsPrepared cmp k m path (Some made) = IsReadyAt cmp k m path made

  -- That an insertion into the gap of a key is ready holds in one way only.
  pub ready-prop : (cmp : K → K → Ordering) (k : K) (m : Map K V Z) (path : List ℕ) (made : ℕ) → IsProp (IsReadyAt cmp k m path made)
  ready-prop cmp k m path made = hlevel (props, open-prop cmp k m path)
