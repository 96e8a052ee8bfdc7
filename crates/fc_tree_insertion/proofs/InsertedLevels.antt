-- The levels of a tree, after an insertion below a node.
use Rattle.std.proofs.Common.{◌≡◌, ℕ, suc, ◌+◌, ◌≤◌, [], ◌∷◌, length, sym, ap, ◌∙◌, subst, arith, Some, None, IfSome, MatchOption}
use Rattle.std.specs.List.{AllByRecursion, insert}
use Rattle.fc_base.specs.Sizes.{capacity}
use Rattle.fc_tree_node.specs.declared.node.Node.{Node}
use Rattle.fc_tree_node.specs.Node.{own_pairs, children_of, IsInner, IsLevelled}
use Rattle.fc_tree_insertion.specs.Insertion.{Split, own_pairs_after, children_after, IsHalved}
use Rattle.fc_tree_node.proofs.Lists.{all_front, all_back, all_set, all_put}
use Rattle.fc_tree_node.proofs.Pairs.{IsBelow}
use Rattle.fc_tree_node.proofs.Lent.{IsReplaced}

module _ {K V Z : Type 0} where
  all_below : (h : ℕ) (old mid c new r : Node K V Z) (i : ℕ) (s : Split K V Z) → IsLevelled (suc h) old → IsReplaced old mid i c → IsBelow h c → IsBelow h r
      → children_after new s ≡ insert (children_of mid) (i + 1) r → AllByRecursion (IsBelow h) (children_after new s)
  all_below h old mid c new r i s l m b b₂ q =
      subst (AllByRecursion (IsBelow h)) (sym (q ∙ ap (λ cs. insert cs (i + 1) r) m.child))
      (all_put (IsBelow h) _ (i + 1) r (all_set (IsBelow h) (children_of old) i c l.2 b) b₂)

  levelled_parts : (h : ℕ) (new : Node K V Z) (s : Split K V Z) → AllByRecursion (IsBelow h) (children_after new s)
      → IsInner new → IfSome s (λ x. IsInner x.1) → MatchOption s (length (own_pairs new) ≤ capacity) (λ x. IsHalved new × IsHalved x.1)
      → IsLevelled (suc h) new × IfSome s (λ x. IsLevelled (suc h) x.1)
  levelled_parts h new None all h₁ h₂ size = ((size, h₁, all), tt)
  levelled_parts h new (Some (up, right)) all h₁ h₂ size = (
    (omega arith, h₁, all_front (IsBelow h) (children_of new) (children_of right) all),
    (omega arith, h₂, all_back (IsBelow h) (children_of new) (children_of right) all),
  )

  pub levelled_put : (h : ℕ) (old mid c new r : Node K V Z) (i : ℕ) (s : Split K V Z) → IsLevelled (suc h) old → IsReplaced old mid i c → IsBelow h c
      → IsBelow h r
      → children_after new s ≡ insert (children_of mid) (i + 1) r → IsInner new → IfSome s (λ x. IsInner x.1)
      → MatchOption s (length (own_pairs new) ≤ capacity) (λ x. IsHalved new × IsHalved x.1)
      → IsLevelled (suc h) new × IfSome s (λ x. IsLevelled (suc h) x.1)
  levelled_put h old mid c new r i s l m b b₂ q = levelled_parts h new s (all_below h old mid c new r i s l m b b₂ q)

  -- a node that was not split has not lost a pair
  pub grown : (new : Node K V Z) (s : Split K V Z) (n : ℕ) → length (own_pairs_after new s) ≡ n + 1
      → MatchOption s (length (own_pairs new) ≤ capacity) (λ x. IsHalved new × IsHalved x.1)
      → MatchOption s (n ≤ length (own_pairs new)) (λ x. IsHalved new × IsHalved x.1)
  grown new None n e size = omega arith
  grown new (Some (up, right)) n e size = size

  -- a new root above two halves
  pub levelled_root : (h : ℕ) (root left right : Node K V Z) (up : K × V) → own_pairs root ≡ up ∷ [] → children_of root ≡ left ∷ right ∷ [] → IsBelow h left
      → IsBelow h right → IsLevelled (suc h) root
  levelled_root h root left right up e f b₁ b₂ =
      let n : length (own_pairs root) ≡ 1 = ap length e in
      let m : length (children_of root) ≡ 2 = ap length f in
      (omega arith, omega arith, subst (AllByRecursion (IsBelow h)) (sym f) (b₁, (b₂, tt)))
