-- How many requests for memory it takes to make two trees one.
use Rattle.std.specs.Prelude.{ℕ, ◌+◌, ◌*◌, Some, None}
use Rattle.std.specs.Int.{abs_diff}
use Rattle.fc_tree_node.specs.Measures.{height_of}
use Rattle.fc_tree_node.specs.Tree.{Map}
pub use Rattle.fc_tree_build.specs.Spares.{given_requests}

-- Where all pairs of one lie after those of the other: two for a node of each level between their roots, and two for a new root.
abbrev pub join_requests : {K V Z : Type 0} → Map K V Z → Map K V Z → ℕ
join_requests None theirs = 0
join_requests (Some left) None = 0
join_requests (Some left) (Some right) = 2 * (abs_diff (height_of left) (height_of right) + 1)
