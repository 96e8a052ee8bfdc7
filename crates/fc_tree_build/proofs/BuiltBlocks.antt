-- How many blocks of memory the nodes of a tree have that grows at its right end: those of the spare nodes become its own.
use Rattle.std.proofs.Common.{◌≡◌, ℕ, zero, suc, ◌+◌, ◌*◌, ◌≤◌, ◌↔◌, List, [], ◌∷◌, ◌++◌, length, Option, Some, None, refl, ap, ◌∙◌, arith, length-append}
use Rattle.std.specs.List.{AllByRecursion}
use Rattle.std.specs.Option.{option_to_list}
use Rattle.fc_tree_node.specs.declared.node.Node.{Node, out-Node}
use Rattle.fc_tree_node.specs.Blocks.{own_blocks, blocks_of, blocks_in}
use Rattle.fc_tree_node.specs.Node.{children_of, items_or_none, IsLeaf, IsEmptyLeaf, IsEmptyInner}
use Rattle.fc_tree_node.specs.Requests.{list_requests}
use Rattle.fc_tree_node.proofs.BlockFacts.{all_blocks, blocks_are, alone_inner, blocks_leaf, blocks_both}
use Rattle.fc_tree_build.proofs.Builders.{leaf_taken}

-- each node's blocks are asked for
leaves_asked : (n : ℕ) → n ≤ list_requests 1 n
leaves_asked zero = omega arith
leaves_asked (suc n) = omega arith

inner_asked : (n : ℕ) → 2 * n ≤ list_requests 2 n
inner_asked zero = omega arith
inner_asked (suc n) = omega arith

-- by a new builder
pub new_asked : (spine last left all inner count made before between after : ℕ) → spine ≡ 0 → last + left ≡ all → all ≡ count → inner ≡ made
    → between ≡ before + list_requests 1 count → after ≡ between + list_requests 2 made → spine + last + left + 2 * inner + before ≤ after
new_asked spine last left all inner count made before between after none leaves is many first then =
    let leaf = leaves_asked count in
    let above = inner_asked made in
    omega (arith, none, leaves, is, many, first, then, leaf, above)

as_many : {X : Type 0} (o p : Option (List X)) → (o ≡ None) ↔ (p ≡ None) → own_blocks o ≡ own_blocks p
as_many None None e = refl
as_many None (Some ds) e = absurd (cc (e.0 refl))
as_many (Some cs) None e = absurd (cc (e.1 refl))
as_many (Some cs) (Some ds) e = refl

module _ {K V Z : Type 0} where
  pub spare_blocks : (n : Node K V Z) → IsEmptyInner n → blocks_of n ≡ 2
  spare_blocks n z =
      let own : own_blocks (out-Node K V Z n).children ≡ 2 = ap own_blocks z.1 in
      let none : all_blocks (children_of n) ≡ 0 = ap (λ o. all_blocks (items_or_none o)) z.1 in
      omega (arith, blocks_are n, own, none)

  -- a child more at the node's end
  pub put_blocks : (n m c : Node K V Z) → (IsLeaf n → ⊥) → (IsLeaf m → ⊥) → children_of m ≡ children_of n ++ c ∷ [] → blocks_of m ≡ blocks_of n + blocks_of c
  put_blocks n m c i j e =
      let all = ap all_blocks e ∙ blocks_both (children_of n) (c ∷ []) in
      omega (arith, blocks_are n, blocks_are m, alone_inner n i, alone_inner m j, all)

  -- a pair more
  pub pair_blocks : (n m : Node K V Z) → children_of m ≡ children_of n → IsLeaf m ↔ IsLeaf n → blocks_of m ≡ blocks_of n
  pair_blocks n m e f =
      let own = as_many (out-Node K V Z m).children (out-Node K V Z n).children f in
      let all = ap all_blocks e in
      omega (arith, blocks_are n, blocks_are m, own, all)

  -- the leaves of a new builder, of which the last one is taken out, if there is one
  pub first_blocks : (all new : List (Node K V Z)) (o : Option (Node K V Z)) → all ≡ new ++ option_to_list o → AllByRecursion (λ x. IsEmptyLeaf x) all
      → blocks_in o + length new ≡ length all
  first_blocks all new None e a = let long = ap length e ∙ length-append new [] in omega (arith, long)
  first_blocks all new (Some b) e a =
      let long = ap length e ∙ length-append new (b ∷ []) in
      omega (arith, long, blocks_leaf b (leaf_taken all new b e a).0.1)
