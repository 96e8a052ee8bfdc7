-- The path that a search takes down a tree.
use Rattle.std.specs.Prelude.{ℕ, List, [], ◌∷◌, if◌then◌else◌, slice_index_or}
use Rattle.std.specs.List.{list_any}
use Rattle.std.specs.Ordering.{is_eq}
use Rattle.std.specs.declared.cmp.Ordering.{Ordering}
use Rattle.fc_tree_node.specs.declared.node.Node.{Node, Node-F, fold-Node}
use Rattle.fc_tree_node.specs.Node.{items_or_none}
use Rattle.fc_tree_search.specs.Passed.{lower_count}

module _ {K Q V : Type 0} (cmp : K → Q → Ordering) (k : Q) where
  -- No step where a pair has a key equal to k, and else the path of the child after the keys below k, if there is one.
  abbrev pub onward : List (K × V) → List (List ℕ) → List ℕ
  onward s paths = if list_any (λ e. is_eq (cmp e.0 k)) s then [] else slice_index_or paths (lower_count cmp k s) []

  module _ {Z : Type 0} where
    -- The number of keys below k, and then the path further down.
    abbrev pub way_step : Node-F K V Z (List ℕ) → List ℕ
    way_step f = lower_count cmp k f.pairs ∷ onward f.pairs (items_or_none f.children)

    -- The path from the node to the pair with a key equal to k, or else to the gap between the pairs of a leaf where k would go.
    abbrev pub path_to : Node K V Z → List ℕ
    path_to = fold-Node K V Z (List ℕ) way_step
