-- How many requests for memory calls on a map make.
use Rattle.std.specs.Prelude.{ℕ, List}
use Rattle.std.specs.declared.cmp.Ordering.{Ordering}
use Rattle.fc_tree_insertion.specs.Cascade.{requests_for}
use Rattle.fc_map.specs.Entries.{Map}
use Rattle.fc_map.specs.LendsKey.{path_in}
use Rattle.fc_map.specs.Ready.{nodes_for}
-- Words of the tree.
pub use Rattle.fc_tree_node.specs.Depth.{HasFewRequests}
pub use Rattle.fc_tree_node.specs.Requests.{list_requests}
pub use Rattle.fc_tree_split.specs.Cut.{border_requests}
pub use Rattle.fc_tree_insertion.specs.Reservation.{IsFewestOver}

-- How many requests an insertion makes at the gap that the path leads to: one for a leaf and two for each inner node that it takes.
abbrev pub requests_at : {K V Z : Type 0} → Map K V Z → List ℕ → ℕ
requests_at m path = requests_for (nodes_for m path)

-- How many requests an insertion of a new key k makes.
abbrev pub insertion_requests : {K Q V Z : Type 0} → (K → Q → Ordering) → Q → Map K V Z → ℕ
insertion_requests cmp k m = requests_at m (path_in cmp k m)
