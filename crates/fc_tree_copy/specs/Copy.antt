-- Copies of pairs and of trees, by what is the same of keys and of values.
use Rattle.std.specs.Prelude.{◌≡◌, ◌⊎◌, ℕ, List, Any, take}
use Rattle.std.specs.List.{AllZip}
use Rattle.fc_base.specs.declared.try_reserve_error.TryReserveError.{TryReserveError}
use Rattle.fc_base.specs.declared.try_reserve_error.TryReserveError.TheVariants.{AllocError}
use Rattle.fc_tree_node.specs.declared.node.Node.{Node}
use Rattle.fc_tree_node.specs.Node.{own_pairs, children_of, pairs_of, IsLeaf, IsLevelled}
use Rattle.fc_tree_node.specs.Blocks.{blocks_of}

-- By which error a copy of nodes with these pairs may be refused, given by which one a copy of each pair may be: `AllocError`, where a
-- node was refused, or an error of one of the pairs' own.
abbrev pub MayRefuseNodes : {A : Type 0} → (A → TryReserveError → Type 0) → List A → TryReserveError → Type 0
MayRefuseNodes may_refuse pairs e = (e ≡ AllocError) ⊎ Any (λ p. may_refuse p e) pairs

module _ {K V : Type 0} where
  -- The keys are the same, and so are the values.
  abbrev pub AreSame : (K → K → Type 0) → (V → V → Type 0) → K × V → K × V → Type 0
  AreSame same_key same_value p q = same_key p.0 q.0 × same_value p.1 q.1

module _ {K V Z : Type 0} where
  -- A tree as another one: the same pairs, in the node itself and in all, on as many levels and in as many blocks.
  pub record IsCopy (same : K × V → K × V → Type 0) (source copy : Node K V Z) : Type 0 where
    pub pairs : AllZip same (pairs_of source) (pairs_of copy)
    pub own : AllZip same (own_pairs source) (own_pairs copy)
    pub levels : (h : ℕ) → IsLevelled h source → IsLevelled h copy
    pub blocks : blocks_of copy ≡ blocks_of source

  -- A node with the pairs of another one, and with copies of its first i children.
  pub record IsCopyUpTo (same : K × V → K × V → Type 0) (i : ℕ) (source copy : Node K V Z) : Type 0 where
    pub own : AllZip same (own_pairs source) (own_pairs copy)
    pub below : AllZip (IsCopy same) (take i (children_of source)) (children_of copy)
    pub leaf : IsLeaf source → IsLeaf copy
    pub inner : ¬ (IsLeaf source) → ¬ (IsLeaf copy)
