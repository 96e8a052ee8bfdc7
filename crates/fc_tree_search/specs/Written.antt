-- What a tree is, once a value is written at a place.
use Rattle.std.specs.Prelude.{ℕ, zero, suc, List, [], ◌∷◌, slice_set}
use Rattle.std.specs.Option.{option_map}
use Rattle.std.specs.Borrow.{Fml, RattleType, MutBor, Lends}
use Rattle.core.specs.declared.alloc.Allocator.{Ghosts}
use Rattle.fc_tree_node.specs.declared.node.Node.{Node, out-Node, roll-Node}
use Rattle.fc_tree_node.specs.Node.{child_at}
use Rattle.fc_tree_node.specs.contracts.node.Node.{the_row}

-- The pairs with this value at the place, which keeps its key.
abbrev pub set_value : {K V : Type 0} → List (K × V) → ℕ → V → List (K × V)
set_value [] i w = []
set_value (e ∷ es) zero w = (e.0, w) ∷ es
set_value (e ∷ es) (suc i) w = e ∷ set_value es i w

module _ {K V Z : Type 0} where
  -- The node with this value in its own pair at the place.
  abbrev pub with_value : Node K V Z → ℕ → V → Node K V Z
  with_value n i w = roll-Node K V Z (record { pairs = set_value (out-Node K V Z n).pairs i w; children = (out-Node K V Z n).children })

  -- The node with this child at the place.
  abbrev pub with_child : Node K V Z → ℕ → Node K V Z → Node K V Z
  with_child n i c = roll-Node K V Z (record { pairs = (out-Node K V Z n).pairs; children = option_map (λ cs. slice_set cs i c) (out-Node K V Z n).children })

  -- The tree with this value at the place that the path leads to.
  unfoldable pub written : Node K V Z → List ℕ → V → Node K V Z
  written n [] w = n
  written n (i ∷ []) w = with_value n i w
  written n (i ∷ j ∷ path) w = with_child n i (written (child_at n i) (j ∷ path) w)

module _ (K V Z : RattleType) (heap : Ghosts Z.Denot) where
  -- Once the borrow r of the value at the place ends, the tree has there what was written through r.
  abbrev pub lends_at : MutBor (Node K.Denot V.Denot Z.Denot) → List ℕ → MutBor V.Denot → Fml
  lends_at n path r = Lends (the_row K V Z heap) V n r (written n.now path)
