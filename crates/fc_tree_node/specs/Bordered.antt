-- Nodes that are sound but for the border on one side, as a cut through a tree leaves them.
use Rattle.std.specs.Prelude.{ℕ, zero, suc, ◌≤◌, List, [], ◌∷◌, length}
use Rattle.std.specs.List.{AllByRecursion}
use Rattle.fc_base.specs.Sizes.{capacity}
use Rattle.fc_tree_node.specs.declared.node.Node.{Node}
use Rattle.fc_tree_node.specs.Node.{own_pairs, children_of, IsLeaf, IsInner, IsSound}

module _ {X : Type 0} (P Q : X → Type 0) where
  -- The first item is as P says, and each other item as Q says.
  abbrev pub FirstThen : List X → Type 0
  FirstThen [] = Unit {0}
  FirstThen (x ∷ xs) = P x × AllByRecursion Q xs

  -- The last item is as P says, and each other item as Q says.
  abbrev pub LastAfter : List X → Type 0
  LastAfter [] = Unit {0}
  LastAfter (x ∷ []) = P x
  LastAfter (x ∷ y ∷ ys) = Q x × LastAfter (y ∷ ys)

module _ {K V Z : Type 0} where
  -- The node is as a sound one with its leaves h levels down, but that the nodes on its leftmost path may hold fewer pairs, none too.
  abbrev pub IsLeftBordered : ℕ → Node K V Z → Type 0
  IsLeftBordered zero n = (length (own_pairs n) ≤ capacity) × IsLeaf n
  IsLeftBordered (suc h) n = (length (own_pairs n) ≤ capacity) × IsInner n × FirstThen (IsLeftBordered h) (IsSound h) (children_of n)

  -- The node is as a sound one with its leaves h levels down, but that the nodes on its rightmost path may hold fewer pairs, none too.
  abbrev pub IsRightBordered : ℕ → Node K V Z → Type 0
  IsRightBordered zero n = (length (own_pairs n) ≤ capacity) × IsLeaf n
  IsRightBordered (suc h) n = (length (own_pairs n) ≤ capacity) × IsInner n × LastAfter (IsRightBordered h) (IsSound h) (children_of n)
