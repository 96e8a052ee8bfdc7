-- Gaps of one leaf.
use Rattle.std.specs.Prelude.{◌≡◌, ℕ, suc, ◌+◌, ◌-◌, ◌<◌, ◌⊎◌, List, [], ◌∷◌, length, take, slice_index}
use Rattle.std.specs.Borrow.{Bor}
use Rattle.fc_tree_node.specs.declared.node.Node.{Node}
use Rattle.fc_tree_node.specs.Node.{own_pairs, pairs_of, IsLevelled}
use Rattle.fc_tree_node.specs.Path.{before_gap}
use Rattle.fc_tree_node.specs.Place.{IsPlace, before_pair, node_at}

-- The path with its last step greater by a number.
abbrev pub advanced : List ℕ → ℕ → List ℕ
advanced [] k = []
advanced (i ∷ []) k = (i + k) ∷ []
advanced (i ∷ j ∷ path) k = i ∷ advanced (j ∷ path) k

module _ {K V Z : Type 0} where
  -- The pair after a gap is a pair of the node that so many steps of the gap's path lead to.
  abbrev pub IsHolder : List ℕ → Node K V Z → ℕ → Node K V Z → Type 0
  IsHolder gap root way n = (way < length gap) × IsPlace (take (suc way) gap) root × (length (before_pair (take (suc way) gap) root) ≡ length (before_gap gap root)) × (n ≡ node_at (take way gap) root) × (slice_index gap way < length (own_pairs n)) × IsLevelled (length gap - suc way) n
