-- A tree that is grafted on the border of another one.
use Rattle.std.specs.Prelude.{◌≡◌, ℕ, List, ◌∷◌, ◌++◌, Some, None}
use Rattle.fc_tree_node.specs.declared.node.Node.{Node}
use Rattle.fc_tree_node.specs.Node.{IsSound}
use Rattle.fc_tree_node.specs.Bordered.{IsLeftBordered, IsRightBordered}
use Rattle.fc_tree_split.specs.Border.{IsBordered}
use Rattle.fc_tree_split.specs.declared.rebalancing.Border.{Border}
use Rattle.fc_tree_split.specs.declared.rebalancing.Border.TheVariants.{Left, Right}
use Rattle.fc_tree_insertion.specs.Insertion.{Split}

-- A list with another one on that side of it, and an item between the two.
abbrev pub beside : {X : Type 0} → Border → List X → X → List X → List X
beside Left own between other = other ++ between ∷ own
beside Right own between other = own ++ between ∷ other

module _ {K V Z : Type 0} where
  -- The other node has come to that side of the node: the left one of the two stands in its place.
  abbrev pub IsPlacedBeside : Border → Node K V Z → Node K V Z → Node K V Z → Node K V Z → Type 0
  IsPlacedBeside Left old other new right = (new ≡ other) × (right ≡ old)
  IsPlacedBeside Right old other new right = (new ≡ old) × (right ≡ other)

  -- Two nodes beside each other, of which the one on that side is sound but for its border there, and the other one sound.
  abbrev pub AreHalves : Border → ℕ → Node K V Z → Node K V Z → Type 0
  AreHalves Left h left right = IsLeftBordered h left × IsSound h right
  AreHalves Right h left right = IsSound h left × IsRightBordered h right

  -- The node is sound but for the border on that side, with the node that it handed out on its right, if there is one.
  abbrev pub IsGrafted : Border → ℕ → Node K V Z → Split K V Z → Type 0
  IsGrafted side h n None = IsBordered side h n
  IsGrafted side h n (Some (up, right)) = AreHalves side h n right
