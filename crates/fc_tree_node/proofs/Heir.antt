-- A root without pairs, and the only child that takes its place.
use Rattle.std.proofs.Common.{◌≡◌, ℕ, zero, suc, ◌+◌, List, [], ◌∷◌, length, get_or, map, sym, ap, ◌∙◌, arith}
use Rattle.std.proofs.Common.{append-nil, Option, Some, None, MatchOption, inl, inr}
use Rattle.std.proofs.lemmas.List.{nil_from_length}
use Rattle.fc_tree_node.specs.Weave.{weave}
use Rattle.fc_tree_node.specs.declared.node.Node.{Node, out-Node}
use Rattle.fc_tree_node.specs.Node.{own_pairs, children_of, pairs_of, IsLeaf, IsLevelled}
use Rattle.fc_tree_node.specs.Siblings.{IsFormed}
use Rattle.fc_tree_node.specs.Tree.{entries}
use Rattle.fc_tree_node.proofs.Formed.{inner_opened}
use Rattle.fc_tree_node.proofs.Made.{children_in, inner_length}
use Rattle.fc_tree_node.proofs.Pairs.{pairs_is, leaf_pairs}

module _ {K V Z : Type 0} where
  pub levelled_formed : (h : ℕ) (n : Node K V Z) → IsLevelled h n → IsFormed n
  levelled_formed zero n l = inl l.1
  levelled_formed (suc h) n l = inr l.1

  -- the only child of a root without pairs
  pub only_one : (root : Node K V Z) (cs : List (Node K V Z)) (c : Node K V Z) → (out-Node K V Z root).children ≡ Some cs → IsFormed root
      → length (own_pairs root) ≡ 0 → c ≡ get_or cs 0 c → children_of root ≡ c ∷ []
  only_one root cs c e formed h f = children_in root cs e ∙ single cs c (inner_length root cs e (inner_opened root cs e formed) ∙ ap (λ k. k + 1) h) f
    where
      single : (cs : List (Node K V Z)) (c : Node K V Z) → length cs ≡ 1 → c ≡ get_or cs 0 c → cs ≡ c ∷ []
      single [] c e f = absurd (omega arith)
      single (x ∷ []) c e f = ap (λ y. y ∷ []) (sym f)
      single (x ∷ y ∷ cs) c e f = absurd (omega arith)

  pub only_pairs : (root c : Node K V Z) → length (own_pairs root) ≡ 0 → children_of root ≡ c ∷ [] → pairs_of c ≡ pairs_of root
  only_pairs root c h e =
      sym (pairs_is root ∙ ap (λ ps. weave (map pairs_of (children_of root)) ps) (nil_from_length (own_pairs root) h) ∙ ap (λ cs. weave (map pairs_of cs) []) e
      ∙ append-nil (pairs_of c))

  -- what takes the place of a root without pairs holds the same
  pub heir_pairs : (heir : Option (Node K V Z)) (root : Node K V Z) → length (own_pairs root) ≡ 0
      → MatchOption heir (IsLeaf root) (λ c. children_of root ≡ c ∷ []) → entries heir ≡ pairs_of root
  heir_pairs None root h l = sym (leaf_pairs root l ∙ nil_from_length (own_pairs root) h)
  heir_pairs (Some c) root h e = only_pairs root c h e
