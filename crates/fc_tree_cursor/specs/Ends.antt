-- The two ends of a walk over part of a tree, as paths in a node.
use Rattle.std.specs.Prelude.{◌≡◌, ℕ, ◌+◌, ◌<◌, ◌⊎◌, List, [], ◌∷◌, length}
use Rattle.fc_tree_node.specs.declared.node.Node.{Node}
use Rattle.fc_tree_node.specs.Path.{IsPath}

-- The first path leads to no later gap than the second; one without steps stands for the end of the tree on its side.
abbrev pub AreInOrder : List ℕ → List ℕ → Type 0
AreInOrder [] back = Unit {0}
AreInOrder (i ∷ front) [] = Unit {0}
AreInOrder (i ∷ front) (j ∷ back) = (i < j) ⊎ ((i ≡ j) × AreInOrder front back)

-- The path leads to a gap of a leaf so many levels down, or it has no step and stands for the end of the tree on its side.
abbrev pub IsEnd : {K V Z : Type 0} → ℕ → List ℕ → Node K V Z → Type 0
IsEnd h path n = IsPath path n × (0 < length path → length path ≡ h + 1)
