-- How many blocks of memory a node has once a pair of its own changed: as many as before.
use Rattle.std.proofs.Common.{◌≡◌, ℕ, zero, suc, ◌+◌, ◌<◌, length, ap, arith}
use Rattle.fc_tree_node.specs.declared.node.Node.{Node}
use Rattle.fc_tree_node.specs.Blocks.{blocks_of}
use Rattle.fc_tree_node.specs.Node.{own_pairs, children_of, IsLevelled}
use Rattle.fc_tree_node.proofs.BlockFacts.{all_blocks, blocks_leaf, blocks_inner}
use Rattle.fc_tree_removal.proofs.Replaced.{IsPairSet}

module _ {K V Z : Type 0} where
  -- the same children
  pub kept_blocks : (n m : Node K V Z) → 0 < length (children_of n) → children_of m ≡ children_of n → blocks_of m ≡ blocks_of n
  kept_blocks n m some same =
      let long = ap length same in
      let all = ap all_blocks same in
      omega (arith, blocks_inner n some, blocks_inner m (omega (arith, some, long)), all)

  -- another pair of its own, no other node
  pub set_blocks : (h : ℕ) (old new : Node K V Z) (i : ℕ) (pair : K × V) → IsPairSet old new i pair → IsLevelled h old → blocks_of new ≡ blocks_of old
  set_blocks zero old new i pair s l = omega (arith, blocks_leaf new (s.leaf.1 l.1), blocks_leaf old l.1)
  set_blocks (suc h) old new i pair s l =
      let inner : length (children_of old) ≡ length (own_pairs old) + 1 = l.1 in
      kept_blocks old new (omega arith) s.children
