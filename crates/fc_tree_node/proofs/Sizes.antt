-- How many pairs a levelled node holds itself.
use Rattle.std.specs.Prelude.{ℕ, zero, suc, ◌≤◌, length}
use Rattle.fc_base.specs.Sizes.{capacity}
use Rattle.fc_tree_node.specs.declared.node.Node.{Node}
use Rattle.fc_tree_node.specs.Node.{own_pairs, IsLevelled}

pub level_size : {K V Z : Type 0} (h : ℕ) (n : Node K V Z) → IsLevelled h n → length (own_pairs n) ≤ capacity
level_size zero n l = l.0
level_size (suc h) n l = l.0
