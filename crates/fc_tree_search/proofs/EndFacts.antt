-- The way down to the first and to the last pair of a tree.
use Rattle.std.proofs.Common.{◌≡◌, ℕ, suc, zero, ◌+◌, ◌-◌, ◌<◌, ◌≤◌, List, [], ◌∷◌, ◌++◌, length, get_or, slice_get, Some, refl, sym, ap, ◌∙◌, arith}
use Rattle.std.proofs.Common.{append_assoc, append-nil, length-append, subst, IsTrue, true, false}
use Rattle.fc_tree_node.specs.declared.node.Node.{Node}
use Rattle.fc_tree_node.specs.Node.{own_pairs, children_of, child_at, pairs_of, IsLeaf, IsInner, IsSoundRoot}
use Rattle.fc_tree_node.specs.Place.{before_child, after_child}
use Rattle.fc_tree_node.proofs.Pairs.{leaf_pairs, child_below}
use Rattle.fc_tree_node.proofs.Gaps.{inner_gap, item_there, after_none}

module _ {X : Type 0} where
  first_there : (xs rest : List X) (x : X) → 0 < length xs → x ≡ get_or xs 0 x → slice_get (xs ++ rest) 0 ≡ Some x
  first_there [] rest x some e = absurd (omega arith)
  first_there (y ∷ xs) rest x some e = ap Some (sym e)

  -- what stands at the end of a list stands there after another list
  last_there : (lead xs : List X) (i : ℕ) (x : X) → i + 1 ≡ length xs → x ≡ get_or xs i x → slice_get (lead ++ xs) (length (lead ++ xs) - 1) ≡ Some x
  last_there lead xs i x end e =
      let t = item_there xs i (omega arith) in
      after lead (length (lead ++ xs) - 1) (let l = length-append lead xs in omega arith) ∙ t.2 ∙ ap Some (sym (t.1 x) ∙ sym e)
    where
      after : (lead : List X) (n : ℕ) → n ≡ length lead + i → slice_get (lead ++ xs) n ≡ slice_get xs i
      after [] n f = ap (slice_get xs) (omega arith)
      after (y ∷ lead) zero f = absurd (omega arith)
      after (y ∷ lead) (suc n) f = after lead n (omega arith)

module _ {K V Z : Type 0} where
  -- a way down has come to the node, with all its pairs before others
  pub record IsFirst (root node : Node K V Z) : Type 0 where
    pub height : ℕ
    pub sound : IsSoundRoot height node
    pub rest : List (K × V)
    pub pairs : pairs_of root ≡ pairs_of node ++ rest

  -- a way down has come to the node, with all its pairs after others
  pub record IsLast (root node : Node K V Z) : Type 0 where
    pub height : ℕ
    pub sound : IsSoundRoot height node
    pub lead : List (K × V)
    pub pairs : pairs_of root ≡ lead ++ pairs_of node

  -- a sound node that is no leaf has a child at each place, which is sound one level further down
  pub record IsChild (n : Node K V Z) (i : ℕ) : Type 0 where
    pub height : ℕ
    pub inner : IsInner n
    pub there : i < length (children_of n)
    pub sound : IsSoundRoot height (child_at n i)

  pub child_of : (h : ℕ) (n : Node K V Z) (i : ℕ) → IsSoundRoot h n → (IsLeaf n → IsTrue false) → i ≤ length (own_pairs n) → IsChild n i
  child_of zero n i s inner le = let no : false ≡ true = inner s.1.1 in absurd cc
  child_of (suc h) n i s inner le =
      let b = child_below h n i s.1 le in
      record { height = h; inner = s.1.1; there = omega arith; sound = (omega arith, b.1) }

  pub first_start : (h : ℕ) (root : Node K V Z) → IsSoundRoot h root → IsFirst root root
  first_start h root s = record { height = h; sound = s; rest = []; pairs = sym (append-nil (pairs_of root)) }

  pub first_down : (root node child : Node K V Z) → IsFirst root node → IsChild node 0 → child ≡ child_at node 0 → IsFirst root child
  first_down root node child w c e = record {
    height = c.height;
    sound = subst (IsSoundRoot c.height) (sym e) c.sound;
    rest = after_child node 0 ++ w.rest;
    pairs = w.pairs ∙ ap (λ s. s ++ w.rest) (inner_gap node 0 c.inner (omega arith) ∙ ap (λ n. pairs_of n ++ after_child node 0) (sym e))
        ∙ append_assoc (pairs_of child) (after_child node 0) w.rest;
  }

  pub first_found : (root node : Node K V Z) (p : K × V) → IsFirst root node → IsLeaf node → p ≡ get_or (own_pairs node) 0 p
      → slice_get (pairs_of root) 0 ≡ Some p
  first_found root node p w l e =
      ap (λ s. slice_get s 0) (w.pairs ∙ ap (λ s. s ++ w.rest) (leaf_pairs node l)) ∙ first_there (own_pairs node) w.rest p (omega arith) e

  pub last_start : (h : ℕ) (root : Node K V Z) → IsSoundRoot h root → IsLast root root
  last_start h root s = record { height = h; sound = s; lead = []; pairs = refl }

  pub last_down : (root node child : Node K V Z) (i : ℕ) → IsLast root node → IsChild node i → i ≡ length (own_pairs node) → child ≡ child_at node i
      → IsLast root child
  last_down root node child i w c end e = record {
    height = c.height;
    sound = subst (IsSoundRoot c.height) (sym e) c.sound;
    lead = w.lead ++ before_child node i;
    pairs = w.pairs ∙ ap (λ s. w.lead ++ s) (inner_gap node i c.inner (omega arith)
        ∙ ap (λ s. before_child node i ++ s) (ap (λ r. pairs_of (child_at node i) ++ r) (after_none node i (omega arith))
        ∙ append-nil (pairs_of (child_at node i)) ∙ ap pairs_of (sym e)))
        ∙ sym (append_assoc w.lead (before_child node i) (pairs_of child));
  }

  pub last_found : (root node : Node K V Z) (i : ℕ) (p : K × V) → IsLast root node → IsLeaf node → i + 1 ≡ length (own_pairs node)
      → p ≡ get_or (own_pairs node) i p → slice_get (pairs_of root) (length (pairs_of root) - 1) ≡ Some p
  last_found root node i p w l end e =
      ap (λ s. slice_get s (length s - 1)) (w.pairs ∙ ap (λ s. w.lead ++ s) (leaf_pairs node l)) ∙ last_there w.lead (own_pairs node) i p end e
