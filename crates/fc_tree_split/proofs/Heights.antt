-- How many levels a tree has of which one border may be short.
use Rattle.std.proofs.Common.{◌≡◌, ℕ, zero, suc, ◌<◌, List, [], ◌∷◌, length, map, ap, ◌∙◌, arith}
use Rattle.fc_tree_node.specs.declared.node.Node.{Node}
use Rattle.fc_tree_node.specs.Node.{children_of, IsSound}
use Rattle.fc_tree_node.specs.Bordered.{FirstThen, LastAfter}
use Rattle.fc_tree_node.specs.Measures.{above_first, height_of}
use Rattle.fc_tree_node.proofs.MeasureFacts.{height_is, no_children, levelled_height}
use Rattle.fc_tree_node.proofs.Pairs.{leaf_children}
use Rattle.fc_tree_split.specs.Border.{IsBordered}
use Rattle.fc_tree_split.specs.declared.rebalancing.Border.{Border}
use Rattle.fc_tree_split.specs.declared.rebalancing.Border.TheVariants.{Left, Right}

module _ {K V Z : Type 0} where
  first_then : (h : ℕ) (P Q : Node K V Z → Type 0) → ((c : Node K V Z) → P c → height_of c ≡ h) → (cs : List (Node K V Z)) → 0 < length cs → FirstThen P Q cs
      → above_first (map height_of cs) ≡ suc h
  first_then h P Q f [] k a = absurd (omega arith)
  first_then h P Q f (c ∷ cs) k a = ap suc (f c a.0)

  last_after : (h : ℕ) (P Q : Node K V Z → Type 0) → ((c : Node K V Z) → P c → height_of c ≡ h) → ((c : Node K V Z) → Q c → height_of c ≡ h)
      → (cs : List (Node K V Z))
      → 0 < length cs → LastAfter P Q cs → above_first (map height_of cs) ≡ suc h
  last_after h P Q f f' [] k a = absurd (omega arith)
  last_after h P Q f f' (c ∷ []) k a = ap suc (f c a)
  last_after h P Q f f' (c ∷ d ∷ cs) k a = ap suc (f' c a.0)

  pub bordered_height : (side : Border) (h : ℕ) (n : Node K V Z) → IsBordered side h n → height_of n ≡ h
  bordered_height Left zero n l = no_children n (leaf_children n l.1)
  bordered_height Right zero n l = no_children n (leaf_children n l.1)
  bordered_height Left (suc h) n l = height_is n ∙ first_then h (IsBordered Left h) (IsSound h) (bordered_height Left h) (children_of n)
      (omega arith) l.2
  bordered_height Right (suc h) n l = height_is n ∙ last_after h (IsBordered Right h) (IsSound h) (bordered_height Right h) (λ c s. levelled_height h c s.1)
      (children_of n) (omega arith) l.2
