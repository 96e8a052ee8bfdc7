-- Two neighbouring children of a node, before and after pairs went from one to the other, or both became one node.
use Rattle.std.specs.Prelude.{◌≡◌, ℕ, ◌+◌, ◌∷◌, ◌++◌, length, slice_index_or, slice_set, remove, ◌⊎◌}
use Rattle.fc_tree_node.specs.declared.node.Node.{Node}
use Rattle.fc_tree_node.specs.Node.{own_pairs, children_of, child_at, IsLeaf, IsInner}

module _ {K V Z : Type 0} where
  -- The node is a leaf, or it has one child more than pairs.
  abbrev pub IsFormed : Node K V Z → Type 0
  IsFormed n = IsLeaf n ⊎ IsInner n

  -- Both nodes are leaves, or both have one child more than pairs.
  abbrev pub AreAlike : Node K V Z → Node K V Z → Type 0
  AreAlike n m = (IsLeaf n × IsLeaf m) ⊎ (IsInner n × IsInner m)

  -- The children at i and i + 1 became one node at i, with the pair between them in its middle.
  pub record IsMerged (i : ℕ) (old new : Node K V Z) : Type 0 where
    pub whole : Node K V Z
    pub pairs : own_pairs new ≡ remove (own_pairs old) i
    pub children : children_of new ≡ slice_set (remove (children_of old) (i + 1)) i whole
    pub own : (d : K × V) → own_pairs whole ≡ own_pairs (child_at old i) ++ slice_index_or (own_pairs old) i d ∷ own_pairs (child_at old (i + 1))
    pub below : children_of whole ≡ children_of (child_at old i) ++ children_of (child_at old (i + 1))
    pub alike : AreAlike (child_at old i) whole

  -- The children at i and i + 1 and the pair between them hold the same in the same order, the child at i now n pairs of it.
  pub record IsShared (i n : ℕ) (old new : Node K V Z) : Type 0 where
    pub left : Node K V Z
    pub between : K × V
    pub right : Node K V Z
    pub pairs : own_pairs new ≡ slice_set (own_pairs old) i between
    pub children : children_of new ≡ slice_set (slice_set (children_of old) i left) (i + 1) right
    pub own : (d : K × V) → own_pairs left ++ between ∷ own_pairs right ≡ own_pairs (child_at old i) ++ slice_index_or (own_pairs old) i d ∷ own_pairs (child_at old (i + 1))
    pub below : children_of left ++ children_of right ≡ children_of (child_at old i) ++ children_of (child_at old (i + 1))
    pub size : length (own_pairs left) ≡ n
    pub alike : AreAlike left right
    pub alike_before : AreAlike (child_at old i) left
