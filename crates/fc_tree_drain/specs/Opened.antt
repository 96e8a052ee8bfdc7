-- Nodes that are taken apart from their ends, and the two stacks of them that an owned walk keeps.
use Rattle.std.specs.Prelude.{◌≡◌, ℕ, zero, suc, ◌+◌, ◌-◌, ◌<◌, ◌≤◌, List, [], ◌∷◌, ◌++◌, length, map}
use Rattle.std.specs.List.{AllByRecursion}
use Rattle.fc_base.specs.Sizes.{most_levels}
use Rattle.fc_tree_node.specs.declared.node.Node.{Node}
use Rattle.fc_tree_node.specs.Node.{own_pairs, children_of, pairs_of, IsSound, IsSoundRoot}
use Rattle.fc_tree_node.specs.Weave.{before_list, after_list}

-- Lists and items in turn up to an item: with no item more than lists a list comes first, and else an item.
abbrev pub closing : {X : Type 0} → ℕ → List X → List (List X) → List X
closing zero ps cs = before_list cs ps
closing (suc k) ps cs = after_list ps cs

module _ {K V Z : Type 0} where
  -- The nodes are sound and lie one level below this one; below a leaf there is none.
  abbrev pub AreBelow : ℕ → List (Node K V Z) → Type 0
  AreBelow zero cs = cs ≡ []
  AreBelow (suc h) cs = AllByRecursion (IsSound h) cs

  -- What is left of a node at this level: as many children as pairs or one fewer, or pairs alone.
  abbrev pub IsOpened : ℕ → Node K V Z → Type 0
  IsOpened h n = (length (children_of n) ≤ length (own_pairs n)) × (0 < length (children_of n) → length (own_pairs n) ≤ length (children_of n) + 1) × AreBelow h (children_of n)

  -- The pairs in a node and below it, where it begins with a pair.
  abbrev pub after_front_in : Node K V Z → List (K × V)
  after_front_in n = after_list (own_pairs n) (map pairs_of (children_of n))

  -- The pairs in a node and below it, where it ends with a pair.
  abbrev pub before_back_in : Node K V Z → List (K × V)
  before_back_in n = closing (length (own_pairs n) - length (children_of n)) (own_pairs n) (map pairs_of (children_of n))

  -- From the bottom to the top, each node has a pair and is opened at a lower level than the one before, all within these bounds.
  abbrev pub IsFalling : ℕ → ℕ → List (Node K V Z) → Type 0
  IsFalling low high [] = low ≤ high
  IsFalling low high (b ∷ s) = (h : ℕ) × (h < high) × (0 < length (own_pairs b)) × IsOpened h b × IsFalling low h s

  -- Each node begins with a pair and ends with a child, as one does of which nothing was taken from its back.
  abbrev pub AreEven : List (Node K V Z) → Type 0
  AreEven s = AllByRecursion (λ b. length (children_of b) ≡ length (own_pairs b)) s

  -- The node is a sound root at a level below the stack.
  abbrev pub IsUnder : Node K V Z → List (Node K V Z) → Type 0
  IsUnder n s = (h : ℕ) × IsSoundRoot h n × IsFalling (suc h) most_levels s

  -- The pairs of the front's stack in order: the top first.
  abbrev pub after_front : List (Node K V Z) → List (K × V)
  after_front [] = []
  after_front (b ∷ s) = after_front s ++ after_front_in b

  -- The pairs of the back's stack in order: the bottom first.
  abbrev pub before_back : List (Node K V Z) → List (K × V)
  before_back [] = []
  before_back (b ∷ s) = before_back_in b ++ before_back s
