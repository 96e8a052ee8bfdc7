-- Inner nodes made ahead, one below the other.
use Rattle.std.specs.Prelude.{◌≡◌, ℕ, zero, suc, [], Option, Some, None}
use Rattle.std.specs.Option.{option_to_list}
use Rattle.fc_tree_node.specs.declared.node.Node.{Node, out-Node}
use Rattle.fc_tree_node.specs.Node.{own_pairs}

module _ {K V Z : Type 0} where
  -- The node has room for children and no pair, and this child alone, if any.
  abbrev pub IsAbove : Node K V Z → Option (Node K V Z) → Type 0
  IsAbove n below = (own_pairs n ≡ []) × ((out-Node K V Z n).children ≡ Some (option_to_list below))

  -- So many nodes without pairs, each above the next, and none below the last.
  abbrev pub AreSpares : ℕ → Option (Node K V Z) → Type 0
  AreSpares zero o = o ≡ None
  AreSpares (suc n) None = ⊥
  AreSpares (suc n) (Some b) = (below : Option (Node K V Z)) × IsAbove b below × AreSpares n below
