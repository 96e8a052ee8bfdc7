-- Nodes and levels of a child are fewer than those of its node, and a level tree has the levels that it says.
use Rattle.std.proofs.Common.{◌≡◌, ℕ, zero, suc, ◌<◌, ◌≤◌, List, [], ◌∷◌, length, map, get_or, Option, Some, None, refl, ap, ◌∙◌, arith}
use Rattle.std.specs.List.{AllByRecursion}
use Rattle.fc_tree_node.specs.declared.node.Node.{Node, out-Node, map-Node, fold_out-Node}
use Rattle.fc_tree_node.specs.Node.{items_or_none, children_of, child_at, IsLevelled, IsSound}
use Rattle.fc_tree_node.specs.Measures.{total, above_first, nodes_step, nodes_of, height_step, height_of}
use Rattle.fc_tree_node.proofs.Pairs.{leaf_children}

module _ {K V Z : Type 0} where
  folded_nodes : (ps : List (K × V)) (o : Option (List (Node K V Z)))
      → nodes_step (map-Node K V Z (Node K V Z) ℕ nodes_of (record { pairs = ps; children = o })) ≡ suc (total (map nodes_of (items_or_none o)))
  folded_nodes ps None = refl
  folded_nodes ps (Some cs) = refl

  nodes_is : (n : Node K V Z) → nodes_of n ≡ suc (total (map nodes_of (children_of n)))
  nodes_is n = fold_out-Node K V Z ℕ nodes_step n ∙ folded_nodes (out-Node K V Z n).pairs (out-Node K V Z n).children

  fewer_in : (cs : List (Node K V Z)) (i : ℕ) (d : Node K V Z) → i < length cs → nodes_of (get_or cs i d) ≤ total (map nodes_of cs)
  fewer_in [] i d h = absurd (omega arith)
  fewer_in (c ∷ cs) zero d h = omega arith
  fewer_in (c ∷ cs) (suc i) d h = let f = fewer_in cs i d (omega arith) in omega arith

  pub fewer_nodes : (n c : Node K V Z) (i : ℕ) → i < length (children_of n) → c ≡ child_at n i → nodes_of c < nodes_of n
  fewer_nodes n c i h e =
      let f = fewer_in (children_of n) i n h in
      let m = nodes_is n in
      let s : nodes_of c ≡ nodes_of (child_at n i) = ap nodes_of e in
      omega arith

  folded_levels : (ps : List (K × V)) (o : Option (List (Node K V Z)))
      → height_step (map-Node K V Z (Node K V Z) ℕ height_of (record { pairs = ps; children = o })) ≡ above_first (map height_of (items_or_none o))
  folded_levels ps None = refl
  folded_levels ps (Some cs) = refl

  pub height_is : (n : Node K V Z) → height_of n ≡ above_first (map height_of (children_of n))
  height_is n = fold_out-Node K V Z ℕ height_step n ∙ folded_levels (out-Node K V Z n).pairs (out-Node K V Z n).children

  pub no_children : (n : Node K V Z) → children_of n ≡ [] → height_of n ≡ 0
  no_children n e = height_is n ∙ ap (λ cs. above_first (map height_of cs)) e

  -- the first child is as high as each
  pub first_all : (h : ℕ) (P : Node K V Z → Type 0) → ((c : Node K V Z) → P c → height_of c ≡ h) → (cs : List (Node K V Z)) → 0 < length cs
      → AllByRecursion P cs
      → above_first (map height_of cs) ≡ suc h
  first_all h P f [] k a = absurd (omega arith)
  first_all h P f (c ∷ cs) k a = ap suc (f c a.0)

  pub levelled_height : (h : ℕ) (n : Node K V Z) → IsLevelled h n → height_of n ≡ h
  levelled_height zero n l = no_children n (leaf_children n l.1)
  levelled_height (suc h) n l = height_is n ∙ first_all h (IsSound h) (λ c s. levelled_height h c s.1) (children_of n) (omega arith) l.2
