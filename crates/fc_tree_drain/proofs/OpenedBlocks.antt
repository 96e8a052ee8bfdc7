-- How many blocks of memory nodes have that are partly given out.
use Rattle.std.proofs.Common.{◌≡◌, ◌+◌, ◌≤◌, List, [], ◌∷◌, ◌++◌, length, Option, Some, None, ap, arith}
use Rattle.fc_tree_node.specs.declared.node.Node.{Node, out-Node}
use Rattle.fc_tree_node.specs.Blocks.{own_blocks, blocks_of}
use Rattle.fc_tree_node.specs.Node.{children_of}
use Rattle.fc_tree_node.proofs.BlockFacts.{all_blocks, blocks_are, blocks_inner, blocks_both}

one_or_two : {X : Type 0} (o : Option (List X)) → (1 ≤ own_blocks o) × (own_blocks o ≤ 2)
one_or_two None = (omega arith, omega arith)
one_or_two (Some cs) = (omega arith, omega arith)

module _ {K V Z : Type 0} where
  pub some_block : (n : Node K V Z) → 1 ≤ blocks_of n
  some_block n = let own = one_or_two (out-Node K V Z n).children in omega (arith, blocks_are n, own.0)

  -- a child was taken out
  pub taken_blocks : (n m c : Node K V Z) → children_of n ≡ c ∷ children_of m → blocks_of m + blocks_of c ≤ blocks_of n
  taken_blocks n m c e =
      let some = ap length e in
      let all = ap all_blocks e in
      let own = one_or_two (out-Node K V Z m).children in
      omega (arith, blocks_inner n (omega (arith, some)), blocks_are m, own.1, all)

  -- a node more on top
  pub pushed_blocks : (s new : List (Node K V Z)) (b : Node K V Z) → new ≡ s ++ b ∷ [] → all_blocks new ≡ all_blocks s + blocks_of b
  pushed_blocks s new b e = let all = ap all_blocks e in let both = blocks_both s (b ∷ []) in omega (arith, all, both)
