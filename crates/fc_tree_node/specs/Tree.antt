-- A map as contracts see it: the tree at its root, whose pairs are the map's list.
use Rattle.std.specs.Prelude.{ℕ, ◌≤◌, List, [], Option, Some, None}
use Rattle.fc_base.specs.Sizes.{most_height}
use Rattle.fc_tree_node.specs.declared.node.Node.{Node}
use Rattle.fc_tree_node.specs.Node.{pairs_of, IsSoundRoot}

-- What contracts see of a map: the node at the root of its tree, if there is one.
abbrev pub Map : Type 0 → Type 0 → Type 0 → Type 0
Map K V Z = Option (Node K V Z)

-- The pairs of a map, in ascending order of their keys.
abbrev pub entries : {K V Z : Type 0} → Map K V Z → List (K × V)
entries None = []
entries (Some root) = pairs_of root

-- The tree is sound, with one height that is not too high for a path, if there is one.
abbrev pub IsSoundMap : {K V Z : Type 0} → Map K V Z → Type 0
IsSoundMap None = Unit {0}
IsSoundMap (Some root) = (h : ℕ) × (h ≤ most_height) × IsSoundRoot h root

-- The tree is sound and has at most h levels below its root, if there is one.
abbrev pub IsSoundWithin : {K V Z : Type 0} → ℕ → Map K V Z → Type 0
IsSoundWithin h None = Unit {0}
IsSoundWithin h (Some root) = (g : ℕ) × (g ≤ h) × IsSoundRoot g root
