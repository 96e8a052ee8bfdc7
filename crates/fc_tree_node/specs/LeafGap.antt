-- Gaps between the pairs of a leaf.
use Rattle.std.specs.Prelude.{◌≡◌, ℕ, ◌+◌, List, length}
use Rattle.fc_tree_node.specs.declared.node.Node.{Node}
use Rattle.fc_tree_node.specs.Node.{IsLevelled}
use Rattle.fc_tree_node.specs.Path.{IsPath}

-- The path leads down to a gap of a leaf.
abbrev pub IsLeafGap : {K V Z : Type 0} → List ℕ → Node K V Z → Type 0
IsLeafGap path n = IsPath path n × ((h : ℕ) → IsLevelled h n → length path ≡ h + 1)
