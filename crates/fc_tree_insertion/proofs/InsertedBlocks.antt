-- How many blocks more a node has once a pair was inserted below it, with what it hands out.
use Rattle.std.proofs.Common.{◌≡◌, ℕ, ◌+◌, ◌-◌, ◌<◌, ◌≤◌, List, [], ◌∷◌, length, get_or, MatchOption, IfSome, Some, None, inl, inr, refl, sym, ap, subst, arith}
use Rattle.std.specs.List.{insert}
use Rattle.std.proofs.lemmas.Bool.Decides.{eqb_tells}
use Rattle.fc_base.specs.Sizes.{capacity}
use Rattle.fc_tree_node.specs.declared.node.Node.{Node}
use Rattle.fc_tree_node.specs.Blocks.{blocks_of}
use Rattle.fc_tree_node.specs.Node.{own_pairs, children_of, IsLeaf, IsInner, IsLevelled}
use Rattle.fc_tree_node.proofs.BlockFacts.{all_blocks, blocks_leaf, blocks_inner, blocks_both, blocks_put, replaced_blocks}
use Rattle.fc_tree_node.proofs.Lent.{IsReplaced}
use Rattle.fc_tree_insertion.specs.Cascade.{cascade, requests_for}
use Rattle.fc_tree_insertion.specs.Insertion.{Split, children_after, blocks_after}
use Rattle.fc_tree_insertion.proofs.Cascades.{IsCascadeStep, rest_of}

module _ {K V Z : Type 0} where
  one_full : (i : ℕ) (n : Node K V Z) → length (own_pairs n) ≡ capacity → cascade (i ∷ []) n ≡ 1
  one_full i n e = elim (eqb_tells (length (own_pairs n)) capacity) [ inl w ↦ rw w.0 refl | inr w ↦ absurd (w.1 e) ]

  one_with_room : (i : ℕ) (n : Node K V Z) → length (own_pairs n) < capacity → cascade (i ∷ []) n ≡ 0
  one_with_room i n r = elim (eqb_tells (length (own_pairs n)) capacity) [ inl w ↦ absurd (omega (arith, w.1, r)) | inr w ↦ rw w.0 refl ]

  end_leaf : (p : List ℕ) (n : Node K V Z) → p ≡ get_or p 0 0 ∷ [] → IsLevelled (length p - 1) n → IsLeaf n
  end_leaf p n one level = let long = ap length one in let none : length p - 1 ≡ 0 = omega (arith, long) in (subst (λ h. IsLevelled h n) none level).1

  -- a leaf is one block, and so is what it hands out
  pub leaf_blocks : (p : List ℕ) (n new : Node K V Z) (s : Split K V Z) → p ≡ get_or p 0 0 ∷ [] → IsLevelled (length p - 1) n → IsLeaf new
      → IfSome s (λ x. IsLeaf x.1)
      → MatchOption s (length (own_pairs n) < capacity) (λ _. length (own_pairs n) ≡ capacity)
      → blocks_after new s ≡ blocks_of n + requests_for (cascade p n)
  leaf_blocks p n new None one level now other room =
      let a = blocks_leaf n (end_leaf p n one level) in
      let b = blocks_leaf new now in
      let c : cascade p n ≡ 0 = subst (λ q. cascade q n ≡ 0) (sym one) (one_with_room (get_or p 0 0) n room) in
      rw c (omega (arith, a, b))
  leaf_blocks p n new (Some (up, right)) one level now other full =
      let a = blocks_leaf n (end_leaf p n one level) in
      let b = blocks_leaf new now in
      let d = blocks_leaf right other in
      let c : cascade p n ≡ 1 = subst (λ q. cascade q n ≡ 1) (sym one) (one_full (get_or p 0 0) n full) in
      rw c (omega (arith, a, b, d))

  pub below_blocks : (p : List ℕ) (n new c d : Node K V Z) → IsCascadeStep p n c → IsReplaced n new (get_or p 0 0) d
      → cascade (rest_of p) c < length (rest_of p) → blocks_of d ≡ blocks_of c + requests_for (cascade (rest_of p) c)
      → blocks_of new ≡ blocks_of n + requests_for (cascade p n)
  below_blocks p n new c d k m part more =
      let old : length (children_of n) ≡ length (own_pairs n) + 1 = k.step.inner in
      let r = replaced_blocks n new c d (get_or p 0 0) (omega (arith, old, k.step.le)) m k.is in
      rw (k.part part) (omega (arith, r, more))

  -- a child was split, and its right half put in beside it
  pub above_blocks : (p : List ℕ) (n mid new c d right : Node K V Z) (s : Split K V Z) → 2 ≤ length p → IsCascadeStep p n c → IsReplaced n mid (get_or p 0 0) d
      → children_after new s ≡ insert (children_of mid) (get_or p 0 0 + 1) right → IsInner new → IfSome s (λ x. IsInner x.1)
      → cascade (rest_of p) c ≡ length (rest_of p)
      → MatchOption s (length (own_pairs n) < capacity) (λ _. length (own_pairs n) ≡ capacity)
      → blocks_of d + blocks_of right ≡ blocks_of c + requests_for (cascade (rest_of p) c)
      → blocks_after new s ≡ blocks_of n + requests_for (cascade p n)
  above_blocks p n mid new c d right None long k m children inner other halved room more =
      let old : length (children_of n) ≡ length (own_pairs n) + 1 = k.step.inner in
      let now : length (children_of new) ≡ length (own_pairs new) + 1 = inner in
      let a = blocks_inner mid (omega (arith, old, m.many)) in
      let b = blocks_inner new (omega (arith, now)) in
      let r = replaced_blocks n mid c d (get_or p 0 0) (omega (arith, old, k.step.le)) m k.is in
      let all : all_blocks (children_of new) ≡ all_blocks (children_of mid) + blocks_of right =
      rw children (blocks_put (children_of mid) (get_or p 0 0 + 1) right) in
      rw (k.room room) (omega (arith, a, b, r, all, more))
  above_blocks p n mid new c d right (Some (up, half)) long k m children inner other halved full more =
      let old : length (children_of n) ≡ length (own_pairs n) + 1 = k.step.inner in
      let now : length (children_of new) ≡ length (own_pairs new) + 1 = inner in
      let beside : length (children_of half) ≡ length (own_pairs half) + 1 = other in
      let a = blocks_inner mid (omega (arith, old, m.many)) in
      let b = blocks_inner new (omega (arith, now)) in
      let e = blocks_inner half (omega (arith, beside)) in
      let r = replaced_blocks n mid c d (get_or p 0 0) (omega (arith, old, k.step.le)) m k.is in
      let both = blocks_both (children_of new) (children_of half) in
      let put = blocks_put (children_of mid) (get_or p 0 0 + 1) right in
      let all : all_blocks (children_of new) + all_blocks (children_of half) ≡ all_blocks (children_of mid) + blocks_of right =
      subst (λ l. l ≡ all_blocks (children_of mid) + blocks_of right) both (rw children put) in
      let whole = k.full full (omega (arith, halved)) in
      let below : blocks_of d + blocks_of right ≡ blocks_of c + requests_for (length (rest_of p)) = rw halved at more in
      rw whole (omega (arith, a, b, e, r, all, k.step.long, long, below))
