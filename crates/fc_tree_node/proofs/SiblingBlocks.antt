-- How many blocks of memory a node has once two children became one, or share their pairs anew: never more than before.
use Rattle.std.proofs.Common.{◌≡◌, ℕ, zero, suc, ◌+◌, ◌<◌, ◌≤◌, List, [], ◌∷◌, length, get_or, Option, Some, None, MatchOption, inl, inr}
use Rattle.std.proofs.Common.{ap, subst, ◌∙◌, arith, add-one}
use Rattle.std.specs.Prelude.{slice_set}
use Rattle.std.specs.List.{remove}
use Rattle.fc_tree_node.specs.declared.node.Node.{Node}
use Rattle.fc_tree_node.specs.Blocks.{blocks_alone, blocks_of, blocks_in}
use Rattle.fc_tree_node.specs.Node.{own_pairs, children_of, child_at, IsLeaf, IsInner, IsLevelled}
use Rattle.fc_tree_node.specs.Siblings.{AreAlike, IsMerged, IsShared}
use Rattle.fc_tree_node.proofs.BlockFacts.{all_blocks, blocks_are, alone_leaf, alone_inner, blocks_leaf, blocks_inner, blocks_both, replaced_blocks}
use Rattle.fc_tree_node.proofs.Lent.{IsReplaced}
use Rattle.fc_tree_node.proofs.Pairs.{leaf_children}

module _ {K V Z : Type 0} where
  pub alone_formed : (n : Node K V Z) → IsInner n → blocks_alone n ≡ 2
  alone_formed n inner =
      let some : length (children_of n) ≡ length (own_pairs n) + 1 = inner in
      alone_inner n (λ leaf. let none = ap length (leaf_children n leaf) in omega (arith, some, none))

  pub alike_alone : (n m : Node K V Z) → AreAlike n m → blocks_alone n ≡ blocks_alone m
  alike_alone n m (inl leaves) = omega (arith, alone_leaf n leaves.0, alone_leaf m leaves.1)
  alike_alone n m (inr inner) = omega (arith, alone_formed n inner.0, alone_formed m inner.1)

  merged_list : (cs : List (Node K V Z)) (i : ℕ) (w d : Node K V Z) → suc i < length cs
      → all_blocks (slice_set (remove cs (suc i)) i w) + (blocks_of (get_or cs i d) + blocks_of (get_or cs (suc i) d)) ≡ all_blocks cs + blocks_of w
  merged_list [] i w d h = absurd (omega arith)
  merged_list (c ∷ []) i w d h = absurd (omega arith)
  merged_list (c ∷ e ∷ cs) zero w d h = omega arith
  merged_list (c ∷ e ∷ cs) (suc i) w d h = let more = merged_list (e ∷ cs) i w d (omega arith) in omega (arith, more)

  shared_list : (cs : List (Node K V Z)) (i : ℕ) (l r d : Node K V Z) → suc i < length cs
      → all_blocks (slice_set (slice_set cs i l) (suc i) r) + (blocks_of (get_or cs i d) + blocks_of (get_or cs (suc i) d))
      ≡ all_blocks cs + (blocks_of l + blocks_of r)
  shared_list [] i l r d h = absurd (omega arith)
  shared_list (c ∷ []) i l r d h = absurd (omega arith)
  shared_list (c ∷ e ∷ cs) zero l r d h = omega arith
  shared_list (c ∷ e ∷ cs) (suc i) l r d h = let more = shared_list (e ∷ cs) i l r d (omega arith) in omega (arith, more)

  -- two children became one
  pub merged_blocks : (i : ℕ) (old new : Node K V Z) → IsInner old → IsInner new → i < length (own_pairs old) → IsMerged i old new
      → blocks_of new ≤ blocks_of old
  merged_blocks i old new inner inner' lt m =
      let some : length (children_of old) ≡ length (own_pairs old) + 1 = inner in
      let some' : length (children_of new) ≡ length (own_pairs new) + 1 = inner' in
      let children : all_blocks (children_of new) + (blocks_of (child_at old i) + blocks_of (child_at old (i + 1)))
      ≡ all_blocks (children_of old) + blocks_of m.whole =
      rw m.children (rw (add-one i) (merged_list (children_of old) i m.whole old (omega arith))) in
      let below = ap all_blocks m.below ∙ blocks_both (children_of (child_at old i)) (children_of (child_at old (i + 1))) in
      omega (
        arith,
        blocks_inner old (omega arith),
        blocks_inner new (omega arith),
        children,
        below,
        blocks_are m.whole,
        blocks_are (child_at old i),
        blocks_are (child_at old (i + 1)),
        alike_alone (child_at old i) m.whole m.alike,
      )

  -- two children share their pairs anew
  pub shared_blocks : (i n : ℕ) (old new : Node K V Z) → IsInner old → IsInner new → i < length (own_pairs old)
      → AreAlike (child_at old i) (child_at old (i + 1)) → IsShared i n old new → blocks_of new ≤ blocks_of old
  shared_blocks i n old new inner inner' lt alike s =
      let some : length (children_of old) ≡ length (own_pairs old) + 1 = inner in
      let some' : length (children_of new) ≡ length (own_pairs new) + 1 = inner' in
      let children : all_blocks (children_of new) + (blocks_of (child_at old i) + blocks_of (child_at old (i + 1)))
      ≡ all_blocks (children_of old) + (blocks_of s.left + blocks_of s.right) =
      rw s.children (rw (add-one i) (shared_list (children_of old) i s.left s.right old (omega arith))) in
      let below : all_blocks (children_of s.left) + all_blocks (children_of s.right)
      ≡ all_blocks (children_of (child_at old i)) + all_blocks (children_of (child_at old (i + 1))) =
      subst (λ k. k ≡ all_blocks (children_of (child_at old i)) + all_blocks (children_of (child_at old (i + 1))))
      (blocks_both (children_of s.left) (children_of s.right))
      (ap all_blocks s.below ∙ blocks_both (children_of (child_at old i)) (children_of (child_at old (i + 1)))) in
      omega (
        arith,
        blocks_inner old (omega arith),
        blocks_inner new (omega arith),
        children,
        below,
        blocks_are s.left,
        blocks_are s.right,
        blocks_are (child_at old i),
        blocks_are (child_at old (i + 1)),
        alike_alone (child_at old i) s.left s.alike_before,
        alike_alone s.left s.right s.alike,
        alike_alone (child_at old i) (child_at old (i + 1)) alike,
      )

  -- a child was lent, and came back with no more blocks
  pub lent_blocks : (old mid child c : Node K V Z) (i : ℕ) → IsInner old → i ≤ length (own_pairs old) → IsReplaced old mid i c → child ≡ child_at old i
      → blocks_of c ≤ blocks_of child → blocks_of mid ≤ blocks_of old
  lent_blocks old mid child c i inner le m is less =
      let some : length (children_of old) ≡ length (own_pairs old) + 1 = inner in
      omega (arith, replaced_blocks old mid child c i (omega arith) m is, less)

  -- what takes the place of a root
  pub heir_blocks : (heir : Option (Node K V Z)) (root : Node K V Z) → MatchOption heir (IsLeaf root) (λ c. children_of root ≡ c ∷ [])
      → blocks_in heir ≤ blocks_of root
  heir_blocks None root e = omega arith
  heir_blocks (Some c) root e =
      let some = ap length e in
      let all = ap all_blocks e in
      omega (arith, blocks_inner root (omega (arith, some)), all)
