-- Where a new key takes a node: in an empty map, and where the leaf of its gap is full.
use Rattle.std.specs.Prelude.{◌≡◌, ℕ, List, length, Some, None}
use Rattle.std.specs.declared.cmp.Ordering.{Ordering}
use Rattle.fc_base.specs.Sizes.{capacity}
use Rattle.fc_tree_node.specs.Leaf.{leaf_at}
use Rattle.fc_tree_node.specs.Node.{own_pairs}
use Rattle.fc_map.specs.Entries.{Map}
use Rattle.fc_map.specs.LendsKey.{path_in}

-- The map has no leaf at all, or the one at the end of the path holds 15 pairs.
abbrev pub IsFullAt : {K V Z : Type 0} → Map K V Z → List ℕ → Type 0
IsFullAt None path = Unit {0}
IsFullAt (Some root) path = length (own_pairs (leaf_at path root)) ≡ capacity

-- A new key k takes a node: the map is empty, or the leaf that a search for k ends in holds 15 pairs.
abbrev pub TakesNode : {K Q V Z : Type 0} → (K → Q → Ordering) → Q → Map K V Z → Type 0
TakesNode cmp k m = IsFullAt m (path_in cmp k m)
