-- Nodes of which one child, or two beside each other, may have too few pairs.
use Rattle.std.specs.Prelude.{◌≡◌, ℕ, zero, suc, ◌+◌, ◌<◌, ◌≤◌, ◌⊎◌, Bool, true, false, ◌∷◌, ◌++◌, length, take, drop}
use Rattle.std.specs.List.{AllByRecursion}
use Rattle.fc_base.specs.Sizes.{capacity, min_len}
use Rattle.fc_tree_node.specs.declared.node.Node.{Node}
use Rattle.fc_tree_node.specs.Node.{own_pairs, children_of, child_at, IsLeaf, IsInner, IsSound}
use Rattle.fc_tree_retain.specs.Unbalanced.{IsUnbalanced}

module _ {K V Z : Type 0} where
  -- The node may hold few pairs, none too. Its children are sound; where it holds none, its only child may again be such a node.
  abbrev pub IsUnderfull : ℕ → Node K V Z → Type 0
  IsUnderfull zero n = (length (own_pairs n) ≤ capacity) × IsLeaf n
  IsUnderfull (suc h) n = (length (own_pairs n) ≤ capacity) × IsInner n × (AllByRecursion (IsSound h) (children_of n) ⊎ ((length (own_pairs n) ≡ 0) × IsUnderfull h (child_at n 0)))

  -- Such a node, or where the flag is not set one of which each node may hold few pairs.
  abbrev pub IsUnderfullOrUnbalanced : Bool → ℕ → Node K V Z → Type 0
  IsUnderfullOrUnbalanced true = IsUnderfull
  IsUnderfullOrUnbalanced false = IsUnbalanced

  -- The two children beside the pair at the place may hold too few pairs, and those before them are sound.
  pub record IsSeam (h : ℕ) (n : Node K V Z) (i : ℕ) : Type 0 where
    pub in_bounds : i < length (own_pairs n)
    pub fits : length (own_pairs n) ≤ capacity
    pub inner : IsInner n
    pub before : AllByRecursion (IsSound h) (take i (children_of n))
    pub left : IsUnderfull h (child_at n i)
    pub right : IsUnderfull h (child_at n (i + 1))

  -- Both became one node, which is sound where one of them was.
  pub record IsOne (h i : ℕ) (old new : Node K V Z) : Type 0 where
    pub whole : Node K V Z
    pub children : children_of new ≡ take i (children_of old) ++ whole ∷ drop (suc (suc i)) (children_of old)
    pub own : length (own_pairs new) + 1 ≡ length (own_pairs old)
    pub underfull : IsUnderfull h whole
    pub sound : IsSound h (child_at old i) ⊎ IsSound h (child_at old (i + 1)) → IsSound h whole

  -- Both are sound.
  pub record AreTwo (h i : ℕ) (old new : Node K V Z) : Type 0 where
    pub left : Node K V Z
    pub right : Node K V Z
    pub children : children_of new ≡ take i (children_of old) ++ left ∷ right ∷ drop (suc (suc i)) (children_of old)
    pub own : length (own_pairs new) ≡ length (own_pairs old)
    pub sound : IsSound h left × IsSound h right

  -- The children before and after the two are as they were, and j is the place of the last of what the two became.
  abbrev pub IsSeamRebalanced : ℕ → ℕ → ℕ → Node K V Z → Node K V Z → Type 0
  IsSeamRebalanced h i j old new = ((j ≡ i) × IsOne h i old new) ⊎ ((j ≡ i + 1) × AreTwo h i old new)

  -- The node of two whose children meet beside the pair at the place: only these may hold too few pairs, and both only where the node has one pair.
  abbrev pub IsMet : ℕ → ℕ → Node K V Z → Type 0
  IsMet zero i n = (length (own_pairs n) ≤ capacity) × IsLeaf n
  IsMet (suc h) i n = IsSeam h n i × AllByRecursion (IsSound h) (drop (suc (suc i)) (children_of n)) × (2 ≤ length (own_pairs n) → IsSound h (child_at n i) ⊎ IsSound h (child_at n (i + 1)))

  -- How many pairs the two children beside the pair at the place hold, with that pair.
  abbrev pub together : Node K V Z → ℕ → ℕ
  together n i = length (own_pairs (child_at n i)) + 1 + length (own_pairs (child_at n (i + 1)))

  -- The two children beside the pair at i became one node, whose children meet beside its pair at the seam.
  pub record IsOneMet (h i seam : ℕ) (old new : Node K V Z) : Type 0 where
    pub whole : Node K V Z
    pub children : children_of new ≡ take i (children_of old) ++ whole ∷ drop (suc (suc i)) (children_of old)
    pub own : length (own_pairs new) + 1 ≡ length (own_pairs old)
    pub inner : IsInner new
    pub met : IsMet h seam whole
    pub size : length (own_pairs whole) ≡ together old i

  -- Or one took from the other, which is sound, and has now one pair more than it needs.
  pub record AreTwoMet (h i place seam : ℕ) (old new : Node K V Z) : Type 0 where
    pub grown : Node K V Z
    pub other : Node K V Z
    pub children : ((place ≡ i) × (children_of new ≡ take i (children_of old) ++ grown ∷ other ∷ drop (suc (suc i)) (children_of old))) ⊎ ((place ≡ i + 1) × (children_of new ≡ take i (children_of old) ++ other ∷ grown ∷ drop (suc (suc i)) (children_of old)))
    pub own : length (own_pairs new) ≡ length (own_pairs old)
    pub inner : IsInner new
    pub met : IsMet h seam grown
    pub size : length (own_pairs grown) ≡ min_len + 1
    pub sound : IsSound h other

  abbrev pub IsJoined : ℕ → ℕ → ℕ → ℕ → ℕ → Node K V Z → Node K V Z → Type 0
  IsJoined h i place seam last old new = ((place ≡ i) × (last ≡ i) × IsOneMet h i seam old new) ⊎ ((last ≡ i + 1) × AreTwoMet h i place seam old new)
