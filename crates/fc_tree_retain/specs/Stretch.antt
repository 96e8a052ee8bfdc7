-- The pairs of a tree between two gaps, asked in turn.
use Rattle.std.specs.Prelude.{◌≡◌, ℕ, ◌+◌, ◌≤◌, Bool, List, ◌++◌, length, take, drop}
use Rattle.std.specs.List.{AllByRecursion}
use Rattle.fc_base.specs.Sizes.{capacity}
use Rattle.fc_tree_node.specs.declared.node.Node.{Node}
use Rattle.fc_tree_node.specs.Node.{own_pairs, children_of, pairs_of, IsInner, IsSound}
use Rattle.fc_tree_node.specs.Path.{before_gap, after_gap}
use Rattle.fc_tree_retain.specs.Rebalancing.{IsUnderfull}
use Rattle.fc_tree_retain.specs.Retained.{RetainsInTurn}

module _ {S K V : Type 0} where
  -- The items from i up to j were asked, and those stay at which R said true.
  pub record IsLeafRangeFiltered (R : S → K × V → S → V → Bool → Type 0) (s t : S) (i j : ℕ) (old new : List (K × V)) : Type 0 where
    pub asked : List (K × V)
    pub stay : List (K × V)
    pub filtered : RetainsInTurn R s asked t stay
    pub before : old ≡ take i old ++ (asked ++ drop j old)
    pub after : new ≡ take i old ++ (stay ++ drop j old)

module _ {K V Z : Type 0} where
  -- The pairs between two gaps were asked, and those stay at which R said true.
  pub record IsRangeFiltered {S : Type 0} (R : S → K × V → S → V → Bool → Type 0) (s t : S) (front back : List ℕ) (old new : Node K V Z) : Type 0 where
    pub asked : List (K × V)
    pub stay : List (K × V)
    pub filtered : RetainsInTurn R s asked t stay
    pub before : pairs_of old ≡ before_gap front old ++ (asked ++ after_gap back old)
    pub after : pairs_of new ≡ before_gap front old ++ (stay ++ after_gap back old)

  -- The children from the first of these places to the second may hold few pairs, and all others are sound.
  pub record IsUnderfullWithin (h : ℕ) (n : Node K V Z) (i j : ℕ) : Type 0 where
    pub fits : length (own_pairs n) ≤ capacity
    pub inner : IsInner n
    pub order : i ≤ j
    pub last : j ≤ length (own_pairs n)
    pub before : AllByRecursion (IsSound h) (take i (children_of n))
    pub underfull : AllByRecursion (IsUnderfull h) (children_of n)
    pub after : AllByRecursion (IsSound h) (drop (j + 1) (children_of n))
