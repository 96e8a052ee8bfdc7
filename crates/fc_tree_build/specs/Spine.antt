-- The right spine of a tree that grows at its right end.
use Rattle.std.specs.Prelude.{◌≡◌, ℕ, suc, ◌≤◌, List, [], ◌∷◌, ◌++◌, length, Option, Some, None}
use Rattle.std.specs.Borrow.{Bor}
use Rattle.std.specs.List.{AllByRecursion}
use Rattle.fc_base.specs.Sizes.{capacity}
use Rattle.fc_tree_node.specs.declared.node.Node.{Node}
use Rattle.fc_tree_node.specs.Node.{own_pairs, children_of, IsLeaf, IsSound}

module _ {K V Z : Type 0} where
  -- The node lacks its last child: it has as many children as pairs, all sound with their leaves h levels below them.
  abbrev pub IsOpenEnd : ℕ → Node K V Z → Type 0
  IsOpenEnd h n = (length (own_pairs n) ≤ capacity) × (IsLeaf n → ⊥) × (length (children_of n) ≡ length (own_pairs n)) × AllByRecursion (IsSound h) (children_of n)

  -- The level of what the first node of a spine lacks, where the last node lacks a child of level h.
  abbrev pub level_above : ℕ → List (Node K V Z) → ℕ
  level_above h [] = h
  level_above h (b ∷ s) = suc (level_above h s)

  -- From the root down, each node lacks its last child, which is the next node; the last node lacks a child of level h.
  abbrev pub IsSpine : ℕ → List (Node K V Z) → Type 0
  IsSpine h [] = Unit {0}
  IsSpine h (b ∷ s) = IsOpenEnd (level_above h s) b × IsSpine h s

module _ {K V : Type 0} where
  -- The pair is the last of the list; none where the list has none.
  abbrev pub IsLastPair : List (K × V) → Option (Bor (K × V)) → Type 0
  IsLastPair s None = s ≡ []
  IsLastPair s (Some last) = (front : List (K × V)) × (s ≡ front ++ last.now ∷ [])
