-- A tree with another node at the end of a way, and what it ends as where the pairs of that node are lent.
use Rattle.std.specs.Prelude.{ℕ, List, [], ◌∷◌, slice_set}
use Rattle.std.specs.Option.{option_map}
use Rattle.std.specs.Borrow.{Fml, RattleType, MutBor, Lends}
use denote.Struct.Tuple.{Tuple}
use denote.Param.{number}
use Rattle.core.specs.declared.alloc.Allocator.{Ghosts}
use Rattle.fc_base.specs.Sizes.{capacity}
use Rattle.fc_tree_slots.specs.contracts.slots.Slots as slots
use Rattle.fc_tree_node.specs.declared.node.Node.{Node, out-Node, roll-Node}
use Rattle.fc_tree_node.specs.Node.{own_pairs, child_at}
use Rattle.fc_tree_node.specs.Place.{node_at}
use Rattle.fc_tree_node.specs.contracts.node.Node.{the_row}

module _ {K V Z : Type 0} where
  -- The node with these pairs of its own.
  abbrev pub with_pairs : Node K V Z → List (K × V) → Node K V Z
  with_pairs n ps = roll-Node K V Z (record { pairs = ps; children = (out-Node K V Z n).children })

  -- The tree with this node at the end of the way.
  abbrev pub with_node : Node K V Z → List ℕ → Node K V Z → Node K V Z
  with_node n [] c = c
  with_node n (i ∷ way) c = roll-Node K V Z (record { pairs = own_pairs n; children = option_map (λ cs. slice_set cs i (with_node (child_at n i) way c)) (out-Node K V Z n).children })

module _ (K V Z : RattleType) (heap : Ghosts Z.Denot) where
  -- Once the borrow r of the pairs of the node that the way leads to ends, that node has what was left after r for its pairs.
  abbrev pub lends_pairs : MutBor (Node K.Denot V.Denot Z.Denot) → List ℕ → MutBor (List (K.Denot × V.Denot)) → Fml
  lends_pairs n way r = Lends (the_row K V Z heap) (slots.the_row (Tuple (K ∷ V ∷ [])) (number capacity) Z heap) n r (λ ps. with_node n.now way (with_pairs (node_at way n.now) ps))
