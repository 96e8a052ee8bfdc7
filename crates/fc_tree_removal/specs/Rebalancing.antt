-- A node of which one child has lost a pair.
use Rattle.std.specs.Prelude.{ℕ, suc, ◌+◌, ◌-◌, ◌≤◌, length, take, drop}
use Rattle.std.specs.List.{AllByRecursion}
use Rattle.fc_base.specs.Sizes.{capacity, min_len}
use Rattle.fc_tree_node.specs.declared.node.Node.{Node}
use Rattle.fc_tree_node.specs.Node.{own_pairs, children_of, child_at, IsInner, IsLevelled, IsSound}

module _ {K V Z : Type 0} where
  -- How many pairs the children on both sides of the pair at the place hold themselves, with that pair.
  abbrev pub together : Node K V Z → ℕ → ℕ
  together n i = length (own_pairs (child_at n i)) + 1 + length (own_pairs (child_at n (i + 1)))

  -- The node has a pair and is not too full, and its children are sound and lie this many levels above the leaves, but that the child at the place may hold a pair too few.
  pub record IsShortAt (h : ℕ) (n : Node K V Z) (i : ℕ) : Type 0 where
    pub some : 1 ≤ length (own_pairs n)
    pub fits : length (own_pairs n) ≤ capacity
    pub inner : IsInner n
    pub place : i ≤ length (own_pairs n)
    pub before : AllByRecursion (IsSound h) (take i (children_of n))
    pub short : min_len - 1 ≤ length (own_pairs (child_at n i))
    pub levels : IsLevelled h (child_at n i)
    pub after : AllByRecursion (IsSound h) (drop (suc i) (children_of n))
