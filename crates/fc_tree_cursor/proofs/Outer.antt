-- The outermost nodes of a level: no pair of the tree lies outside theirs.
use Rattle.std.proofs.Common.{◌≡◌, ℕ, zero, suc, ◌<◌, ◌≤◌, length, ap, ◌∙◌, arith, ◌⊎◌, inl, inr, length-append}
use Rattle.std.specs.Prelude.{◌↔◌}
use Rattle.std.proofs.lemmas.Bool.{cases_lt}
use Rattle.fc_tree_node.specs.declared.node.Node.{Node}
use Rattle.fc_tree_node.specs.Node.{own_pairs, IsLeaf, IsLevelled}
use Rattle.fc_tree_node.specs.Place.{before_child, after_child, before_own}
use Rattle.fc_tree_node.proofs.Gaps.{item_there, before_child_pair, after_child_pair, after_none}
use Rattle.fc_tree_node.proofs.Lists.{length_take}
use Rattle.fc_tree_cursor.proofs.Leaves.{leaf_before_child}

module _ {K V Z : Type 0} (n : Node K V Z) where
  -- No pair of the node is before its first child, nor after its last.
  pub none_before : (h i : ℕ) → IsLevelled h n → i ≤ length (own_pairs n) → (i ≡ 0) ↔ (length (before_child n i) ≡ 0)
  none_before h zero l le = ((λ e. omega arith), (λ e. omega arith))
  none_before h (suc i) l le =
      let e = ap length (before_child_pair h n i (item_there (own_pairs n) i (omega arith)).0 l (omega arith)) ∙ length-append (before_own n i) _ in
      ((λ no. absurd (omega arith)), (λ no. absurd (omega (arith, e, no))))

  pub none_after : (i : ℕ) → i ≤ length (own_pairs n) → (i ≡ length (own_pairs n)) ↔ (length (after_child n i) ≡ 0)
  none_after i le = ((λ e. ap length (after_none n i (omega arith))), (λ e. order e (cases_lt i (length (own_pairs n)))))
    where
      order : length (after_child n i) ≡ 0 → (i < length (own_pairs n)) ⊎ (length (own_pairs n) ≤ i) → i ≡ length (own_pairs n)
      order e (inl k) = absurd (let some = ap length (after_child_pair n i (item_there (own_pairs n) i k).0 k) in omega (arith, some, e))
      order e (inr ge) = omega arith

  pub leaf_before : (i : ℕ) → IsLeaf n → i ≤ length (own_pairs n) → length (before_child n i) ≡ i
  leaf_before i l le = ap length (leaf_before_child n i l) ∙ length_take i (own_pairs n) le

-- What holds in a node and at a place of it, as it does in the child there.
pub outer_on : {F I M R X Y : Type 0} → (M ↔ (F × I)) → (R ↔ (M × Y)) → (X → I × Y) → (I → Y → X) → R ↔ (F × X)
outer_on d e g h = ((λ r. let m = e.0 r in let f = d.0 m.0 in (f.0, h f.1 m.1)), (λ p. let x = g p.1 in e.1 (d.1 (p.0, x.0), x.1)))
