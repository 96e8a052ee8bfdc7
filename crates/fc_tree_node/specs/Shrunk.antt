-- A node that lost a pair, or none.
use Rattle.std.specs.Prelude.{ℕ, ◌+◌, ◌≤◌, length}
use Rattle.fc_tree_node.specs.declared.node.Node.{Node}
use Rattle.fc_tree_node.specs.Node.{own_pairs, IsLevelled}

module _ {K V Z : Type 0} where
  -- The new node has as many pairs of its own as the old one or one fewer.
  abbrev pub IsOneFewer : Node K V Z → Node K V Z → Type 0
  IsOneFewer old new = (length (own_pairs new) ≤ length (own_pairs old)) × (length (own_pairs old) ≤ length (own_pairs new) + 1)

  -- The new node is levelled, and has as many pairs of its own as the old one or one fewer.
  abbrev pub IsShrunk : ℕ → Node K V Z → Node K V Z → Type 0
  IsShrunk h old new = IsLevelled h new × IsOneFewer old new
