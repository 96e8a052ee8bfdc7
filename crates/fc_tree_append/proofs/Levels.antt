-- The levels below a node.
use Rattle.std.proofs.Common.{◌≡◌, ℕ, zero, suc, ◌≤◌, refl, sym, subst, ◌∙◌, arith}
use Rattle.fc_base.specs.Sizes.{most_height}
use Rattle.fc_tree_node.specs.declared.node.Node.{Node}
use Rattle.fc_tree_node.specs.Node.{child_at, IsLeaf, IsLevelled, IsSoundRoot}
use Rattle.fc_tree_node.proofs.Pairs.{child_below}
use Rattle.fc_tree_node.specs.Measures.{height_of}
use Rattle.fc_tree_node.proofs.MeasureFacts.{levelled_height}

module _ {K V Z : Type 0} where
  -- the first child of a node that is no leaf
  pub record IsFirstBelow (h : ℕ) (n : Node K V Z) : Type 0 where
    pub below : ℕ
    pub height : h ≡ suc below
    pub levels : IsLevelled below (child_at n 0)
    pub lower : height_of n ≡ suc (height_of (child_at n 0))

  pub first_below : (h : ℕ) (n : Node K V Z) → (IsLeaf n → ⊥) → IsLevelled h n → IsFirstBelow h n
  first_below zero n f l = absurd (f l.1)
  first_below (suc h) n f l =
      let b = (child_below h n 0 l (omega arith)).1 in
      let x = levelled_height (suc h) n l in
      let y = levelled_height h (child_at n 0) b in
      record { below = h; height = refl; levels = b; lower = omega arith }

  pub first_lower : (h : ℕ) (n : Node K V Z) → (IsLeaf n → ⊥) → IsLevelled h n → height_of n ≡ suc (height_of (child_at n 0))
  first_lower h n f l = (first_below h n f l).lower

  -- a sound tree is one of its own height
  pub own_height : (n : Node K V Z) (height : ℕ) → height ≡ height_of n → (h : ℕ) × (h ≤ most_height) × IsSoundRoot h n
      → (height ≤ most_height) × IsSoundRoot height n
  own_height n height e r =
      let same : r.0 ≡ height = sym (e ∙ levelled_height r.0 n r.2.1) in
      (omega arith, subst (λ h. IsSoundRoot h n) same r.2)
