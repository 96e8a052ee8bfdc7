-- Where a search ends, in one node and in a tree.
use Rattle.std.specs.Prelude.{◌≡◌, ℕ, ◌+◌, ◌<◌, ◌≤◌, List, length, take, slice_index_or, IfSome, min, Result, Ok, Err}
use Rattle.std.specs.List.{AllByRecursion}
use Rattle.std.specs.declared.cmp.Ordering.{Ordering}
use Rattle.std.specs.declared.cmp.Ordering.TheVariants.{Less, Equal, Greater}
use Rattle.fc_tree_node.specs.declared.node.Node.{Node}
use Rattle.fc_tree_node.specs.Node.{IsLevelled}
use Rattle.fc_tree_node.specs.Path.{IsPath, before_gap, after_gap}
use Rattle.fc_tree_node.specs.Place.{IsPlace, place_pair, before_pair, after_pair}

module _ {K Q V : Type 0} (cmp : K → Q → Ordering) (k : Q) where
  -- All keys are below k.
  abbrev pub AllBelow : List (K × V) → Type 0
  AllBelow s = AllByRecursion (λ e. cmp e.0 k ≡ Less) s

  -- All keys are above k.
  abbrev pub AllAbove : List (K × V) → Type 0
  AllAbove s = AllByRecursion (λ e. cmp e.0 k ≡ Greater) s

  -- The first key that is not below k stands at the place, and is equal to k.
  abbrev pub IsFoundAt : List (K × V) → ℕ → Type 0
  IsFoundAt s i = (i < length s) × AllBelow (take i s) × ((d : K × V) → cmp (slice_index_or s i d).0 k ≡ Equal)

  -- The first key that is not below k stands at the place, if there is one, and is above k.
  abbrev pub IsGapAt : List (K × V) → ℕ → Type 0
  IsGapAt s i = (i ≤ length s) × AllBelow (take i s) × ((d : K × V) → i < length s → cmp (slice_index_or s i d).0 k ≡ Greater)

  module _ {Z : Type 0} where
    -- The path leads to a pair whose key is equal to k, between keys below k and keys above k.
    pub record IsFound (root : Node K V Z) (path : List ℕ) : Type 0 where
      pub place : IsPlace path root
      pub equal : IfSome (place_pair path root) (λ e. cmp e.0 k ≡ Equal)
      pub before : AllBelow (before_pair path root)
      pub after : AllAbove (after_pair path root)

    -- The path leads down to a gap between the pairs of a leaf, with the keys below k before it and those above k after it.
    pub record IsGap (root : Node K V Z) (path : List ℕ) : Type 0 where
      pub way : IsPath path root
      pub levels : (h : ℕ) → IsLevelled h root → length path ≡ h + 1
      pub front : AllBelow (before_gap path root)
      pub back : AllAbove (after_gap path root)

-- How many of a node's n keys a search from the left compares.
abbrev pub seen : Result ℕ ℕ → ℕ → ℕ
seen (Ok i) n = i + 1
seen (Err i) n = min (i + 1) n
