-- The leaf at the end of a path.
use Rattle.std.specs.Prelude.{ℕ, List, [], ◌∷◌}
use Rattle.fc_tree_node.specs.declared.node.Node.{Node}
use Rattle.fc_tree_node.specs.Node.{child_at}

module _ {K V Z : Type 0} where
  -- The node that the last step of the path is a place in.
  abbrev pub leaf_at : List ℕ → Node K V Z → Node K V Z
  leaf_at [] n = n
  leaf_at (i ∷ []) n = n
  leaf_at (i ∷ j ∷ path) n = leaf_at (j ∷ path) (child_at n i)
