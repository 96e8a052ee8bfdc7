-- Trees whose nodes may hold few pairs, none too.
use Rattle.std.specs.Prelude.{ℕ, zero, suc, ◌≤◌, length}
use Rattle.std.specs.List.{AllByRecursion}
use Rattle.fc_base.specs.Sizes.{capacity}
use Rattle.fc_tree_node.specs.declared.node.Node.{Node}
use Rattle.fc_tree_node.specs.Node.{own_pairs, children_of, IsLeaf, IsInner}

-- Each node has at most the most pairs, and the leaves lie this many levels below the first.
abbrev pub IsUnbalanced : {K V Z : Type 0} → ℕ → Node K V Z → Type 0
IsUnbalanced zero n = (length (own_pairs n) ≤ capacity) × IsLeaf n
IsUnbalanced (suc h) n = (length (own_pairs n) ≤ capacity) × IsInner n × AllByRecursion (IsUnbalanced h) (children_of n)
