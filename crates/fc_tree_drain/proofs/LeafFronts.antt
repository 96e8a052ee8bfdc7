-- The front of a tree whose used-up leaves are handed out.
use Rattle.std.proofs.Common.{◌≡◌, ◌+◌, ◌<◌, ◌≤◌, ◌⊎◌, inl, inr, List, [], ◌++◌, length, map, Option, None, Some, refl, ap, arith, length-append}
use Rattle.std.specs.Prelude.{IsSome}
use Rattle.fc_base.specs.Sizes.{capacity}
use Rattle.fc_tree_node.specs.declared.node.Node.{Node}
use Rattle.fc_tree_node.specs.Blocks.{blocks_of}
use Rattle.fc_tree_node.specs.Measures.{total}
use Rattle.fc_tree_node.specs.Node.{items_or_none}
use Rattle.fc_tree_drain.specs.Opened.{after_front}
use Rattle.fc_tree_drain.specs.LeafFront.{HasLeaf, IsOpenLeaf, leaf_blocks}

module _ {K V Z : Type 0} where
  pub has_leaf : (run : Option (List (K × V))) (s : List (Node K V Z)) → IsSome run → HasLeaf run s
  has_leaf None s i = absurd (cc i)
  has_leaf (Some r) s i = tt

  pub some_leaf : (run : Option (List (K × V))) (s : List (Node K V Z)) → (0 < length (items_or_none run)) ⊎ (s ≡ []) → HasLeaf run s
  some_leaf None s (inl h) = absurd (omega arith)
  some_leaf None s (inr e) = e
  some_leaf (Some r) s h = tt

  pub open_leaf : (run : Option (List (K × V))) (s : List (Node K V Z)) → length (items_or_none run) ≤ capacity
      → IsOpenLeaf (record {
        pairs = items_or_none run ++ after_front s;
        in_leaf = length (items_or_none run);
        blocks = total (map blocks_of s) + leaf_blocks run;
      })
  open_leaf run s few = (few, omega (arith, length-append (items_or_none run) (after_front s)))

module _ {K V : Type 0} where
  pub few_blocks : (run : Option (List (K × V))) → leaf_blocks run ≤ 1
  few_blocks None = omega arith
  few_blocks (Some r) = omega arith

  pub kept_block : (run : Option (List (K × V))) → IsSome run → leaf_blocks run ≡ 1
  kept_block None i = absurd (cc i)
  kept_block (Some r) i = refl

  pub open_block : (run : Option (List (K × V))) → 0 < length (items_or_none run) → leaf_blocks run ≡ 1
  open_block None some = absurd (omega arith)
  open_block (Some r) some = refl

module _ {K V Z : Type 0} where
  -- above no leaf there is no node
  pub block_below : (run : Option (List (K × V))) (s : List (Node K V Z)) → HasLeaf run s → 0 < length s → leaf_blocks run ≡ 1
  block_below None s e some = absurd (let none = ap length e in omega arith)
  block_below (Some r) s e some = refl
