-- How many blocks of memory the first few children of a node have.
use Rattle.std.proofs.Common.{◌≡◌, ℕ, zero, suc, ◌+◌, ◌<◌, ◌≤◌, List, [], ◌∷◌, length, take, get_or, ap, arith, add-one}
use Rattle.fc_tree_node.specs.declared.node.Node.{Node}
use Rattle.fc_tree_node.specs.Blocks.{blocks_of}
use Rattle.fc_tree_node.proofs.BlockFacts.{all_blocks}

module _ {K V Z : Type 0} where
  next : (cs : List (Node K V Z)) (i : ℕ) (c d : Node K V Z) → i < length cs → c ≡ get_or cs i d
      → all_blocks (take (suc i) cs) ≡ all_blocks (take i cs) + blocks_of c
  next [] i c d h e = absurd (omega arith)
  next (x ∷ cs) zero c d h e = let is = ap blocks_of e in omega (arith, is)
  next (x ∷ cs) (suc i) c d h e = let more = next cs i c d (omega arith) e in omega (arith, more)

  -- the blocks of one node more of a list
  pub one_more : (cs : List (Node K V Z)) (i : ℕ) (c d : Node K V Z) → i < length cs → c ≡ get_or cs i d
      → all_blocks (take (i + 1) cs) ≡ all_blocks (take i cs) + blocks_of c
  one_more cs i c d h e = rw add-one (next cs i c d h e)

  -- those of the first few are no more than those of all
  pub few_blocks : (cs : List (Node K V Z)) (i : ℕ) → all_blocks (take i cs) ≤ all_blocks cs
  few_blocks [] zero = omega arith
  few_blocks [] (suc i) = omega arith
  few_blocks (c ∷ cs) zero = omega arith
  few_blocks (c ∷ cs) (suc i) = let few = few_blocks cs i in omega (arith, few)
