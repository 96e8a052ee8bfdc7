-- How many blocks of memory a tree has that is made of two: those of both, and of the nodes that it took.
use Rattle.std.proofs.Common.{◌≡◌, ℕ, ◌+◌, ◌*◌, [], ◌∷◌, length, MatchOption, IfSome, Some, None, ap, subst, arith}
use Rattle.std.specs.List.{insert}
use Rattle.fc_tree_node.specs.declared.node.Node.{Node}
use Rattle.fc_tree_node.specs.Blocks.{blocks_of}
use Rattle.fc_tree_node.specs.Node.{own_pairs, children_of, IsInner}
use Rattle.fc_tree_node.proofs.BlockFacts.{all_blocks, blocks_inner, blocks_both, blocks_put}
use Rattle.fc_tree_split.specs.declared.rebalancing.Border.{Border}
use Rattle.fc_tree_split.specs.declared.rebalancing.Border.TheVariants.{Left, Right}
use Rattle.fc_tree_insertion.specs.Insertion.{Split, children_after, blocks_after}
use Rattle.fc_tree_append.specs.Grafted.{IsPlacedBeside}

module _ {K V Z : Type 0} where
  pub beside_blocks : (s : Border) (old other new right : Node K V Z) → IsPlacedBeside s old other new right
      → blocks_of new + blocks_of right ≡ blocks_of old + blocks_of other
  beside_blocks Left old other new right e = let l = ap blocks_of e.0 in let r = ap blocks_of e.1 in omega (arith, l, r)
  beside_blocks Right old other new right e = let l = ap blocks_of e.0 in let r = ap blocks_of e.1 in omega (arith, l, r)

  -- a new root above two nodes
  pub root_blocks : (root left right : Node K V Z) → children_of root ≡ left ∷ right ∷ [] → blocks_of root ≡ blocks_of left + blocks_of right + 2
  root_blocks root left right e =
      let some = ap length e in
      let two = ap all_blocks e in
      omega (arith, blocks_inner root (omega (arith, some)), two)

  -- a node that took a child in, and a spare node where it was halved
  pub taken_in : (mid new right : Node K V Z) (s : Split K V Z) (i was left : ℕ) → IsInner mid → children_after new s ≡ insert (children_of mid) i right
      → IsInner new → IfSome s (λ x. IsInner x.1) → MatchOption s (left ≡ was) (λ _. left + 1 ≡ was)
      → blocks_after new s + 2 * left ≡ blocks_of mid + blocks_of right + 2 * was
  taken_in mid new right None i was left inner children now other used =
      let old : length (children_of mid) ≡ length (own_pairs mid) + 1 = inner in
      let some : length (children_of new) ≡ length (own_pairs new) + 1 = now in
      let all : all_blocks (children_of new) ≡ all_blocks (children_of mid) + blocks_of right = rw children (blocks_put (children_of mid) i right) in
      omega (arith, blocks_inner mid (omega (arith, old)), blocks_inner new (omega (arith, some)), all, used)
  taken_in mid new right (Some (up, half)) i was left inner children now other used =
      let old : length (children_of mid) ≡ length (own_pairs mid) + 1 = inner in
      let some : length (children_of new) ≡ length (own_pairs new) + 1 = now in
      let more : length (children_of half) ≡ length (own_pairs half) + 1 = other in
      let both = blocks_both (children_of new) (children_of half) in
      let all : all_blocks (children_of new) + all_blocks (children_of half) ≡ all_blocks (children_of mid) + blocks_of right =
      subst (λ l. l ≡ all_blocks (children_of mid) + blocks_of right) both (rw children (blocks_put (children_of mid) i right)) in
      omega (
        arith,
        blocks_inner mid (omega (arith, old)),
        blocks_inner new (omega (arith, some)),
        blocks_inner half (omega (arith, more)),
        all,
        used,
      )
