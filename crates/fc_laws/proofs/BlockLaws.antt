-- How many blocks of memory a map has, by its nodes.
use Rattle.std.proofs.Common.{◌≡◌, ℕ, suc, ◌+◌, List, [], ◌∷◌, map, Option, Some, None, refl, subst, arith}
use Rattle.fc_tree_node.specs.declared.node.Node.{Node, Node-F, roll-Node, map-Node, fold-roll-Node, ind-Node}
use Rattle.fc_tree_node.specs.Measures as measures
use Rattle.fc_tree_node.specs.Tree.{Map}
use Rattle.fc_tree_node.specs.Blocks.{blocks_step, blocks_of, blocks_in}
use Rattle.fc_laws.specs.Held.{total, nodes_step, nodes_of, inner_step, inner_of, nodes_in, inner_in}

module _ {K V Z : Type 0} where
  abbrev AreCounted : Node K V Z → Type 0
  AreCounted n = blocks_of n ≡ nodes_of n + inner_of n

  in_list : (cs : List ((n : Node K V Z) × AreCounted n)) → measures.total (map blocks_of (map (λ e. e.0) cs))
      ≡ total (map nodes_of (map (λ e. e.0) cs)) + total (map inner_of (map (λ e. e.0) cs))
  in_list [] = refl
  in_list (c ∷ cs) = let rest = in_list cs in let one = c.1 in omega (arith, rest, one)

  made : (ps : List (K × V)) (o : Option (List ((n : Node K V Z) × AreCounted n)))
      → AreCounted (roll-Node K V Z (map-Node K V Z ((n : Node K V Z) × AreCounted n) (Node K V Z) (λ e. e.0) (record { pairs = ps; children = o })))
  made ps None =
      let leaf : Node-F K V Z (Node K V Z) = record { pairs = ps; children = None } in
      let b : blocks_of (roll-Node K V Z leaf) ≡ 1 = fold-roll-Node K V Z ℕ blocks_step leaf in
      let n : nodes_of (roll-Node K V Z leaf) ≡ 1 = fold-roll-Node K V Z ℕ nodes_step leaf in
      let i : inner_of (roll-Node K V Z leaf) ≡ 0 = fold-roll-Node K V Z ℕ inner_step leaf in
      omega (arith, b, n, i)
  made ps (Some cs) =
      let inner : Node-F K V Z (Node K V Z) = record { pairs = ps; children = Some (map (λ e. e.0) cs) } in
      let b : blocks_of (roll-Node K V Z inner) ≡ 2 + measures.total (map blocks_of (map (λ e. e.0) cs)) = fold-roll-Node K V Z ℕ blocks_step inner in
      let n : nodes_of (roll-Node K V Z inner) ≡ suc (total (map nodes_of (map (λ e. e.0) cs))) = fold-roll-Node K V Z ℕ nodes_step inner in
      let i : inner_of (roll-Node K V Z inner) ≡ suc (total (map inner_of (map (λ e. e.0) cs))) = fold-roll-Node K V Z ℕ inner_step inner in
      let below = in_list cs in
      omega (arith, b, n, i, below)

  counted : (n : Node K V Z) → AreCounted n
  counted = ind-Node K V Z AreCounted (λ x y is. subst (λ z. AreCounted (roll-Node K V Z z)) is (made y.pairs y.children))

  -- One for each node, and one more for each with room for children.
  pub blocks_map : (m : Map K V Z) → blocks_in m ≡ nodes_in m + inner_in m
  blocks_map None = refl
  blocks_map (Some root) = counted root
