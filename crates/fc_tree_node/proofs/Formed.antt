-- Nodes that are leaves or have one child more than pairs.
use Rattle.std.proofs.Common.{◌≡◌, ℕ, zero, suc, ◌+◌, List, [], length, refl, ap, Some, inl, inr, arith}
use Rattle.fc_tree_node.specs.declared.node.Node.{Node, out-Node, roll-Node}
use Rattle.fc_tree_node.specs.Node.{own_pairs, children_of, child_at, IsLeaf, IsInner, IsLevelled}
use Rattle.fc_tree_node.specs.Siblings.{IsFormed, AreAlike}
use Rattle.fc_tree_node.proofs.Made.{inner_made, inner_length}
use Rattle.fc_tree_node.proofs.Pairs.{leaf_children, child_below}

module _ {K V Z : Type 0} where
  -- a node with a list of children is no leaf
  pub inner_opened : (n : Node K V Z) (bs : List (Node K V Z)) → (out-Node K V Z n).children ≡ Some bs → IsFormed n → IsInner n
  inner_opened n bs e (inl leaf) = absurd (cc (e, leaf))
  inner_opened n bs e (inr inner) = inner

  pub alike_opened : (n m : Node K V Z) (bs : List (Node K V Z)) → (out-Node K V Z n).children ≡ Some bs → AreAlike n m → IsInner n × IsInner m
  alike_opened n m bs e (inl leaves) = absurd (cc (e, leaves.0))
  alike_opened n m bs e (inr inner) = inner

  -- an inner node with another number of pairs and as many more children
  pub alike_made : (n : Node K V Z) (ps : List (K × V)) (bs : List (Node K V Z)) → IsInner n → length bs ≡ length ps + 1
      → AreAlike n (roll-Node K V Z (record { pairs = ps; children = Some bs }))
  alike_made n ps bs inner e = inr (inner, inner_made (record { pairs = ps; children = Some bs }) e)

  pub leaf_or_inner : (n : Node K V Z) → IsLeaf n → IsInner n → ⊥
  leaf_or_inner n leaf inner =
      let e : length (children_of n) ≡ length (let ns : List (Node K V Z) = [] in ns) = ap length (leaf_children n leaf) in
      let i : length (children_of n) ≡ length (own_pairs n) + 1 = inner in
      omega arith

  -- the leaves of a tree lie on one level
  pub one_height : (h k : ℕ) (n : Node K V Z) → IsLevelled h n → IsLevelled k n → h ≡ k
  one_height zero zero n l m = refl
  one_height zero (suc k) n l m = absurd (leaf_or_inner n l.1 m.1)
  one_height (suc h) zero n l m = absurd (leaf_or_inner n m.1 l.1)
  one_height (suc h) (suc k) n l m = ap suc (one_height h k (child_at n 0) (child_below h n 0 l (omega arith)).1 (child_below k n 0 m (omega arith)).1)

  -- two nodes like a third are alike
  pub alike_both : (n m k : Node K V Z) → AreAlike n m → AreAlike n k → AreAlike m k
  alike_both n m k (inl a) (inl b) = inl (a.1, b.1)
  alike_both n m k (inl a) (inr b) = absurd (leaf_or_inner n a.0 b.0)
  alike_both n m k (inr a) (inl b) = absurd (leaf_or_inner n b.0 a.0)
  alike_both n m k (inr a) (inr b) = inr (a.1, b.1)

  pub alike_back : (n m : Node K V Z) → AreAlike n m → AreAlike m n
  alike_back n m (inl a) = inl (a.1, a.0)
  alike_back n m (inr a) = inr (a.1, a.0)

  -- two nodes with other numbers of pairs and as many more or fewer children
  pub alike_traded : (n m : Node K V Z) (bs cs : List (Node K V Z)) → (out-Node K V Z n).children ≡ Some bs → (out-Node K V Z m).children ≡ Some cs
      → AreAlike n m
      → (ps qs : List (K × V)) (bs' cs' : List (Node K V Z))
      → length bs' + length (own_pairs n) ≡ length bs + length ps → length cs' + length (own_pairs m) ≡ length cs + length qs
      → AreAlike n (roll-Node K V Z (record { pairs = ps; children = Some bs' }))
      × AreAlike (roll-Node K V Z (record { pairs = ps; children = Some bs' })) (roll-Node K V Z (record { pairs = qs; children = Some cs' }))
  alike_traded n m bs cs e f (inl a) ps qs bs' cs' h k = absurd (cc (e, a.0))
  alike_traded n m bs cs e f (inr a) ps qs bs' cs' h k =
      let p = inner_length n bs e a.0 in
      let q = inner_length m cs f a.1 in
      let x = inner_made (record { pairs = ps; children = Some bs' }) (omega arith) in
      (inr (a.0, x), inr (x, inner_made (record { pairs = qs; children = Some cs' }) (omega arith)))
