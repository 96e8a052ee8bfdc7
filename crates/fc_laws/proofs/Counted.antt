-- How many nodes a tree of so many pairs has at the most.
use Rattle.std.proofs.Common.{◌≡◌, ℕ, zero, suc, ◌+◌, ◌*◌, ◌≤◌, List, [], ◌∷◌, length, map, refl, ap, ◌∙◌, arith, length-append, Option, Some, None}
use Rattle.std.specs.List.{AllByRecursion}
use Rattle.std.proofs.Math.Nat.{mul-le-mul_right}
use Rattle.fc_tree_node.specs.Weave.{weave, after_list}
use Rattle.fc_tree_node.specs.declared.node.Node.{Node, out-Node, map-Node, fold_out-Node}
use Rattle.fc_tree_node.specs.Node.{items_or_none, own_pairs, children_of, pairs_of, IsLeaf, IsSoundRoot}
use Rattle.fc_tree_node.specs.Tree.{Map, entries, IsSoundMap}
use Rattle.fc_tree_node.proofs.Pairs.{pairs_is, leaf_pairs, leaf_children, IsBelow}
use Rattle.fc_tree_node.proofs.Lists.{all_each}
use Rattle.fc_laws.specs.Held.{total, nodes_step, nodes_of, inner_step, inner_of, nodes_in, inner_in, bytes_in}
use Rattle.fc_laws.specs.Held.{most_nodes, most_inner, most_bytes}

module _ {K V Z : Type 0} where
  nodes_woven : (ps : List (K × V)) (o : Option (List (Node K V Z))) → nodes_step
      (map-Node K V Z (Node K V Z) ℕ nodes_of (record { pairs = ps; children = o })) ≡ suc (total (map nodes_of (items_or_none o)))
  nodes_woven ps None = refl
  nodes_woven ps (Some cs) = refl

  -- a node's children's nodes, and itself
  pub nodes_is : (n : Node K V Z) → nodes_of n ≡ suc (total (map nodes_of (children_of n)))
  nodes_is n = fold_out-Node K V Z ℕ nodes_step n ∙ nodes_woven (own_pairs n) (out-Node K V Z n).children

  inner_woven : (ps : List (K × V)) (o : Option (List (Node K V Z))) → inner_step
      (map-Node K V Z (Node K V Z) ℕ inner_of (record { pairs = ps; children = o })) ≤ suc (total (map inner_of (items_or_none o)))
  inner_woven ps None = omega arith
  inner_woven ps (Some cs) = omega arith

  pub inner_is : (n : Node K V Z) → inner_of n ≤ suc (total (map inner_of (children_of n)))
  inner_is n = let e = fold_out-Node K V Z ℕ inner_step n in let w = inner_woven (own_pairs n) (out-Node K V Z n).children in omega (arith, e)

  leaf_inner : (n : Node K V Z) → IsLeaf n → inner_of n ≡ 0
  leaf_inner n e = fold_out-Node K V Z ℕ inner_step n ∙ ap (λ o. inner_step
      (map-Node K V Z (Node K V Z) ℕ inner_of (record { pairs = own_pairs n; children = o }))) e

  -- the pairs of lists and single pairs in turn
  after_long : (cs : List (Node K V Z)) (ps : List (K × V)) → AllByRecursion (λ c. 7 * nodes_of c ≤ length (pairs_of c)) cs → length cs ≡ length ps
      → 7 * total (map nodes_of cs) + length ps ≤ length (after_list ps (map pairs_of cs))
  after_long [] [] a e = omega arith
  after_long [] (p ∷ ps) a e = absurd (omega arith)
  after_long (c ∷ cs) [] a e = absurd (omega arith)
  after_long (c ∷ cs) (p ∷ ps) a e = let i = after_long cs ps a.1 (omega arith) in omega (
    arith,
    a.0,
    length-append (pairs_of c) (after_list ps
        (map pairs_of cs)),
  )

  woven_long : (cs : List (Node K V Z)) (ps : List (K × V)) → AllByRecursion (λ c. 7 * nodes_of c ≤ length (pairs_of c)) cs → length cs ≡ length ps + 1
      → 7 * total (map nodes_of cs) + length ps ≤ length (weave (map pairs_of cs) ps)
  woven_long [] ps a e = absurd (omega arith)
  woven_long (c ∷ cs) ps a e = let i = after_long cs ps a.1 (omega arith) in omega (arith, a.0, length-append (pairs_of c) (after_list ps (map pairs_of cs)))

  in_node : (n : Node K V Z) → AllByRecursion (λ c. 7 * nodes_of c ≤ length (pairs_of c)) (children_of n) → length (children_of n) ≡ length (own_pairs n) + 1
      → 7 * total (map nodes_of (children_of n)) + length (own_pairs n) ≤ length (pairs_of n)
  in_node n a e = let p : length (pairs_of n) ≡ length (weave (map pairs_of (children_of n)) (own_pairs n)) = ap length (pairs_is n) in
      let w = woven_long (children_of n) (own_pairs n) a e in omega arith

  none : (n : Node K V Z) → IsLeaf n → total (map nodes_of (children_of n)) ≡ 0
  none n e = ap (λ cs. total (map nodes_of cs)) (leaf_children n e)

  -- below the root
  nodes_sound : (h : ℕ) (n : Node K V Z) → IsBelow h n → 7 * nodes_of n ≤ length (pairs_of n)
  nodes_sound zero n s =
      let e : length (pairs_of n) ≡ length (own_pairs n) = ap length (leaf_pairs n s.1.1) in
      let c = nodes_is n in let o = none n s.1.1 in let m = s.0 in omega arith
  nodes_sound (suc h) n s =
      let w = in_node n (all_each (IsBelow h) (λ c. 7 * nodes_of c ≤ length (pairs_of c)) (λ c p. nodes_sound h c p) (children_of n) s.1.2) s.1.1 in
      let c = nodes_is n in let m = s.0 in omega arith

  pub nodes_root : (h : ℕ) (n : Node K V Z) → IsSoundRoot h n → 7 * nodes_of n ≤ length (pairs_of n) + 6
  nodes_root zero n s =
      let e : length (pairs_of n) ≡ length (own_pairs n) = ap length (leaf_pairs n s.1.1) in
      let c = nodes_is n in let o = none n s.1.1 in let m = s.0 in omega arith
  nodes_root (suc h) n s =
      let w = in_node n (all_each (IsBelow h) (λ c. 7 * nodes_of c ≤ length (pairs_of c)) (λ c p. nodes_sound h c p) (children_of n) s.1.2) s.1.1 in
      let c = nodes_is n in let m = s.0 in omega arith

  pub nodes_map : (m : Map K V Z) → IsSoundMap m → 7 * nodes_in m ≤ length (entries m) + 6
  nodes_map None s = omega arith
  nodes_map (Some root) s = nodes_root s.0 root s.2

  -- of the nodes below a node, at most one in eight has children
  many_more : (cs : List (Node K V Z)) → AllByRecursion (λ c. 8 * inner_of c + 1 ≤ nodes_of c) cs
      → 8 * total (map inner_of cs) + length cs ≤ total (map nodes_of cs)
  many_more [] a = omega arith
  many_more (c ∷ cs) a = let i = many_more cs a.1 in omega (arith, a.0)

  inner_sound : (h : ℕ) (n : Node K V Z) → IsBelow h n → 8 * inner_of n + 1 ≤ nodes_of n
  inner_sound zero n s = let c = nodes_is n in let o = leaf_inner n s.1.1 in omega arith
  inner_sound (suc h) n s =
      let w = many_more (children_of n) (all_each (IsBelow h) (λ c. 8 * inner_of c + 1 ≤ nodes_of c) (λ c p. inner_sound h c p) (children_of n) s.1.2) in
      let c = nodes_is n in let i = inner_is n in let e : length (children_of n) ≡ length (own_pairs n) + 1 = s.1.1 in let m = s.0 in omega arith

  pub inner_root : (h : ℕ) (n : Node K V Z) → IsSoundRoot h n → 8 * inner_of n ≤ nodes_of n + 5
  inner_root zero n s = let c = nodes_is n in let o = leaf_inner n s.1.1 in omega arith
  inner_root (suc h) n s =
      let w = many_more (children_of n) (all_each (IsBelow h) (λ c. 8 * inner_of c + 1 ≤ nodes_of c) (λ c p. inner_sound h c p) (children_of n) s.1.2) in
      let c = nodes_is n in let i = inner_is n in let e : length (children_of n) ≡ length (own_pairs n) + 1 = s.1.1 in let m = s.0 in omega arith

  pub inner_map : (m : Map K V Z) → IsSoundMap m → 8 * inner_in m ≤ nodes_in m + 5
  inner_map None s = omega arith
  inner_map (Some root) s = inner_root s.0 root s.2

  -- Less than a whole multiple of seven, or of eight, is no node more.
  nodes_most : (m : Map K V Z) (n : ℕ) → IsSoundMap m → length (entries m) ≤ n → nodes_in m ≤ most_nodes n
  nodes_most m n s le = let a = nodes_map m s in omega (arith, a)

  inner_most : (m : Map K V Z) (n : ℕ) → IsSoundMap m → length (entries m) ≤ n → inner_in m ≤ most_inner n
  inner_most m n s le = let a = nodes_most m n s le in let b = inner_map m s in omega (arith, a, b)

  pub bytes_map : (p c n : ℕ) (m : Map K V Z) → IsSoundMap m → length (entries m) ≤ n → bytes_in p c m ≤ most_bytes p c n
  bytes_map p c n m s le =
      let a = mul-le-mul_right p (nodes_most m n s le) in
      let b = mul-le-mul_right c (inner_most m n s le) in
      omega (arith, a, b)
