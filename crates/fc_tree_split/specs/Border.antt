-- A tree with one border that may be short, whichever side it is on.
use Rattle.std.specs.Prelude.{ℕ, suc, ◌+◌, ◌≤◌, length}
use Rattle.fc_base.specs.Sizes.{min_len}
use Rattle.fc_tree_node.specs.declared.node.Node.{Node}
use Rattle.fc_tree_node.specs.Node.{own_pairs, child_at}
use Rattle.fc_tree_node.specs.Bordered.{IsLeftBordered, IsRightBordered}
use Rattle.fc_tree_node.specs.Shrunk.{IsOneFewer}
use Rattle.fc_tree_split.specs.declared.rebalancing.Border.{Border}
use Rattle.fc_tree_split.specs.declared.rebalancing.Border.TheVariants.{Left, Right}

-- The nodes on the path along the side may hold too few pairs.
abbrev pub IsBordered : {K V Z : Type 0} → Border → ℕ → Node K V Z → Type 0
IsBordered Left = IsLeftBordered
IsBordered Right = IsRightBordered

-- The place of the child on the side.
abbrev pub border_place : {K V Z : Type 0} → Border → Node K V Z → ℕ
border_place Left n = 0
border_place Right n = length (own_pairs n)

-- The new node's border is as before, its child on it has one pair more than it needs at least, and it has as many pairs as the old one or one fewer.
abbrev pub HasSparePair : {K V Z : Type 0} → Border → ℕ → Node K V Z → Node K V Z → Type 0
HasSparePair side h old new = IsBordered side (suc h) new × (min_len + 1 ≤ length (own_pairs (child_at new (border_place side new)))) × IsOneFewer old new
