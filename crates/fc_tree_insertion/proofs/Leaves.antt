-- The leaf at the end of a path.
use Rattle.std.proofs.Common.{◌≡◌, ℕ, ◌<◌, ◌≤◌, List, [], ◌∷◌, length, get_or, refl, sym, ap, ◌∙◌, arith}
use Rattle.std.specs.Prelude.{slice_range}
use Rattle.fc_tree_node.specs.declared.node.Node.{Node}
use Rattle.fc_tree_node.specs.Node.{child_at}
use Rattle.fc_tree_insertion.specs.Cascade.{leaf_at}
use Rattle.fc_tree_node.proofs.PathSteps.{IsStep}

module _ {K V Z : Type 0} where
  pub leaf_here : (p : List ℕ) (n : Node K V Z) → p ≡ get_or p 0 0 ∷ [] → leaf_at p n ≡ n
  leaf_here p n e = ap (λ q. leaf_at q n) e

  leaf_cons : (i : ℕ) (p : List ℕ) (n : Node K V Z) → 0 < length p → leaf_at (i ∷ p) n ≡ leaf_at p (child_at n i)
  leaf_cons i [] n h = absurd (omega arith)
  leaf_cons i (j ∷ p) n h = refl

  pub leaf_below : (p : List ℕ) (n child : Node K V Z) → 2 ≤ length p → IsStep p n → child ≡ child_at n (get_or p 0 0)
      → leaf_at p n ≡ leaf_at (slice_range p 1 (length p)) child
  leaf_below p n child h s e =
      ap (λ q. leaf_at q n) s.path_is ∙ leaf_cons (get_or p 0 0) (slice_range p 1 (length p)) n (omega arith)
      ∙ ap (leaf_at (slice_range p 1 (length p))) (sym e)
