-- How many keys a search passes on its way down.
use Rattle.std.specs.Prelude.{ℕ, ◌+◌, List, not, if◌then◌else◌, slice_index, length}
use Rattle.std.specs.List.{list_any}
use Rattle.std.specs.Ordering.{is_lt, is_eq}
use Rattle.std.specs.declared.cmp.Ordering.{Ordering}
use Rattle.fc_base.specs.Parts.{below}
use Rattle.fc_tree_node.specs.declared.node.Node.{Node, Node-F, fold-Node}
use Rattle.fc_tree_node.specs.Node.{items_or_none}

module _ {K Q V : Type 0} (cmp : K → Q → Ordering) (k : Q) where
  -- How many of the pairs have a key below k.
  abbrev pub lower_count : List (K × V) → ℕ
  lower_count s = length (below cmp s k)

  -- One where a pair has a key that is not below k.
  abbrev pub stop_count : List (K × V) → ℕ
  stop_count s = if list_any (λ e. not (is_lt (cmp e.0 k))) s then 1 else 0

  -- None where a pair has a key equal to k, and else what is passed in the child after the keys below k, if there is one.
  abbrev pub down_count : List (K × V) → List ℕ → ℕ
  down_count s counts = if list_any (λ e. is_eq (cmp e.0 k)) s then 0 else slice_index counts (lower_count s)

  module _ {Z : Type 0} where
    -- The keys below k, one more where there is a key not below k, and what is passed further down.
    abbrev pub passed_step : Node-F K V Z ℕ → ℕ
    passed_step f = lower_count f.pairs + stop_count f.pairs + down_count f.pairs (items_or_none f.children)

    -- How many keys a search for k passes in the node and below it.
    abbrev pub passed : Node K V Z → ℕ
    passed = fold-Node K V Z ℕ passed_step
