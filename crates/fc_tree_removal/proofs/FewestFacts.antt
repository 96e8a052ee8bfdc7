-- The fewest moves of a removal from a tree, by those of the removal from its root.
use Rattle.std.proofs.Common.{◌≡◌, ℕ, ◌+◌, ◌<◌, ◌≤◌, length, Some, None, ap, subst, arith}
use Rattle.fc_base.specs.declared.count.Count.{Count}
use Rattle.fc_tree_node.specs.declared.node.Node.{Node}
use Rattle.fc_tree_node.specs.Node.{own_pairs, IsSoundRoot}
use Rattle.fc_tree_node.specs.Shrunk.{IsShrunk}
use Rattle.fc_tree_node.specs.Tree.{Map}
use Rattle.fc_tree_removal.specs.Fewest.{fewest_moves, root_len}
use Rattle.fc_tree_removal.specs.Removal.{IsSoundTree}

module _ {K V Z : Type 0} where
  -- so many moves were made if the root lost a pair
  abbrev IsPaid : Node K V Z → Node K V Z → Count → Count → Type 0
  IsPaid root mid old new =
      (h : ℕ) → IsSoundRoot h root → length (own_pairs mid) < length (own_pairs root) → old.moves + fewest_moves h ≤ new.moves

  -- the root holds another number of pairs
  pub fewest_kept : (m : Map K V Z) (root mid : Node K V Z) (old new : Count) → m ≡ Some root → ((h : ℕ) → IsSoundRoot h root → IsShrunk h root mid)
      → IsPaid root mid old new → (h : ℕ) → IsSoundTree h m → ¬ (length (own_pairs mid) ≡ root_len m) → old.moves + fewest_moves h ≤ new.moves
  fewest_kept None root mid old new is levels paid h s other = absurd cc
  fewest_kept (Some r) root mid old new is levels paid h s other =
      let same : r ≡ root = cc in
      let t = subst (IsSoundRoot h) same s in
      let few = (levels h t).1.0 in
      let e = ap (λ n. length (own_pairs n)) same in
      paid h t (omega arith)

  -- the root holds none
  pub fewest_gone : (m : Map K V Z) (root mid : Node K V Z) (old new : Count) → m ≡ Some root → IsPaid root mid old new → length (own_pairs mid) ≡ 0
      → (h : ℕ) → IsSoundTree h m → old.moves + fewest_moves h ≤ new.moves
  fewest_gone None root mid old new is paid none h s = absurd cc
  fewest_gone (Some r) root mid old new is paid none h s =
      let t = subst (IsSoundRoot h) (let same : r ≡ root = cc in same) s in
      paid h t (omega arith)
