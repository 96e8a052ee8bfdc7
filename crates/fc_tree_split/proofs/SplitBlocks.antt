-- How many blocks of memory two parts of a tree have: together no more than the tree and the border that was made for one of them.
use Rattle.std.proofs.Common.{◌≡◌, ℕ, zero, suc, ◌+◌, ◌*◌, ◌<◌, ◌≤◌, List, [], ◌∷◌, ◌++◌, length, get_or, take, drop}
use Rattle.std.proofs.Common.{Result, Ok, Err, IfOk, refl, ap, ◌∙◌, arith}
use Rattle.fc_tree_node.specs.declared.node.Node.{Node}
use Rattle.fc_tree_node.specs.Blocks.{blocks_alone, blocks_of}
use Rattle.fc_tree_node.specs.Measures.{height_of}
use Rattle.fc_tree_node.specs.Node.{own_pairs, children_of, child_at, IsEmptyLeaf, IsLeaf, IsInner, IsLevelled}
use Rattle.fc_tree_node.specs.Siblings.{AreAlike}
use Rattle.fc_tree_node.proofs.BlockFacts.{all_blocks, blocks_are, alone_leaf, alone_inner, blocks_leaf, blocks_both, replaced_blocks}
use Rattle.fc_tree_node.proofs.Lent.{IsReplaced}
use Rattle.fc_tree_node.proofs.Pairs.{leaf_children}
use Rattle.fc_tree_split.specs.Cut.{IsEmpty}
use Rattle.fc_tree_split.proofs.Cuts.{leaf_low}
use Rattle.fc_tree_node.proofs.SiblingBlocks.{alike_alone, alone_formed}

module _ {K V Z : Type 0} where
  -- a border of a leaf alone
  pub leaf_border : {E : Type 0} (n : Node K V Z) (made : Result (Node K V Z) E) → IsLeaf n → IfOk made IsEmptyLeaf
      → IfOk made (λ top. blocks_of top ≡ 2 * height_of n + 1)
  leaf_border n (Ok top) leaf made = let low = leaf_low n leaf in omega (arith, low, blocks_leaf top made.1)
  leaf_border n (Err e) leaf made = made

  parted : (cs : List (Node K V Z)) (k : ℕ) → all_blocks (take k cs) + all_blocks (drop k cs) ≡ all_blocks cs
  parted [] zero = refl
  parted [] (suc k) = refl
  parted (c ∷ cs) zero = omega arith
  parted (c ∷ cs) (suc k) = let rest = parted cs k in omega (arith, rest)

  -- a node without pairs has as many blocks of its own as one at its level
  pub empty_alone : (h : ℕ) (n r : Node K V Z) → IsLevelled h n → IsEmpty h r → blocks_alone r ≡ blocks_alone n
  empty_alone zero n r l e = omega (arith, alone_leaf n l.1, alone_leaf r e.1)
  empty_alone (suc h) n r l e =
      let one = ap length e.2 in
      let inner = alone_inner r (λ leaf. let none = ap length (leaf_children r leaf) in omega (arith, one, none)) in
      omega (arith, alone_formed n l.1, inner)

  -- what stands after a place went to another node
  pub moved_blocks : (i : ℕ) (n r left right : Node K V Z) → blocks_alone r ≡ blocks_alone n → AreAlike n left → AreAlike left right
      → children_of left ≡ take (i + 1) (children_of n) → children_of right ≡ children_of r ++ drop (i + 1) (children_of n)
      → blocks_of left + blocks_of right ≡ blocks_of n + blocks_of r
  moved_blocks i n r left right same a₁ a₂ f₁ f₂ =
      let front = ap all_blocks f₁ in
      let back = ap all_blocks f₂ ∙ blocks_both (children_of r) (drop (i + 1) (children_of n)) in
      omega (
        arith,
        blocks_are n,
        blocks_are r,
        blocks_are left,
        blocks_are right,
        same,
        alike_alone n left a₁,
        alike_alone left right a₂,
        front,
        back,
        parted (children_of n) (i + 1),
      )

  -- a child of the one and a child of the other came back
  pub forked_blocks : (left right new new' child other c d : Node K V Z) (i : ℕ) → i < length (children_of left) → 0 < length (children_of right)
      → IsReplaced left new i c → IsReplaced right new' 0 d → child ≡ child_at left i → other ≡ child_at right 0
      → blocks_of c + blocks_of d ≡ blocks_of child + blocks_of other → blocks_of new + blocks_of new' ≡ blocks_of left + blocks_of right
  forked_blocks left right new new' child other c d i lt some m m' is is' same =
      omega (arith, replaced_blocks left new child c i lt m is, replaced_blocks right new' other d 0 some m' is', same)
