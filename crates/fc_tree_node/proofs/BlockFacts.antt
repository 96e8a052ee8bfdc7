-- How many blocks of memory a tree has, and a node whose children change.
use Rattle.std.proofs.Common.{◌≡◌, ℕ, zero, suc, ◌+◌, ◌<◌, List, [], ◌∷◌, ◌++◌, length, map, get_or, Option, Some, None, refl, sym, ap, subst, ◌∙◌, arith}
use Rattle.std.specs.Prelude.{slice_set}
use Rattle.std.specs.List.{insert}
use Rattle.std.specs.Option.{option_map}
use Rattle.fc_tree_node.specs.declared.node.Node.{Node, out-Node, roll-Node, map-Node, fold-roll-Node, fold_out-Node, ind-Node}
use Rattle.fc_tree_node.specs.Bare.{key_alone, bare}
use Rattle.fc_tree_node.specs.Blocks.{own_blocks, blocks_alone, blocks_step, blocks_of}
use Rattle.fc_tree_node.specs.Node.{items_or_none, own_pairs, children_of, child_at, IsLeaf}
use Rattle.fc_tree_node.specs.Measures.{total}
use Rattle.fc_tree_node.specs.Place.{IsDescent, node_at}
use Rattle.fc_tree_node.specs.Way.{with_node}
use Rattle.fc_tree_node.proofs.Bare.{mapped, rolled}
use Rattle.fc_tree_node.proofs.Lent.{IsReplaced, replaced}
use Rattle.fc_tree_node.proofs.Pairs.{leaf_children}

two_blocks : {X : Type 0} (o : Option (List X)) → ¬ (o ≡ None) → own_blocks o ≡ 2
two_blocks None some = absurd (some refl)
two_blocks (Some cs) some = refl

module _ {K V Z : Type 0} where
  -- the blocks of a list of nodes
  abbrev pub all_blocks : List (Node K V Z) → ℕ
  all_blocks cs = total (map blocks_of cs)

  within : (ps : List (K × V)) (o : Option (List (Node K V Z)))
      → blocks_step (map-Node K V Z (Node K V Z) ℕ blocks_of (record { pairs = ps; children = o })) ≡ own_blocks o + all_blocks (items_or_none o)
  within ps None = refl
  within ps (Some cs) = refl

  pub blocks_are : (n : Node K V Z) → blocks_of n ≡ blocks_alone n + all_blocks (children_of n)
  blocks_are n = fold_out-Node K V Z ℕ blocks_step n ∙ within (own_pairs n) (out-Node K V Z n).children

  pub alone_leaf : (n : Node K V Z) → IsLeaf n → blocks_alone n ≡ 1
  alone_leaf n e = ap own_blocks e

  pub alone_inner : (n : Node K V Z) → ¬ (IsLeaf n) → blocks_alone n ≡ 2
  alone_inner n inner = two_blocks (out-Node K V Z n).children inner

  pub blocks_leaf : (n : Node K V Z) → IsLeaf n → blocks_of n ≡ 1
  blocks_leaf n e = let none = ap all_blocks (leaf_children n e) in omega (arith, blocks_are n, alone_leaf n e, none)

  pub blocks_inner : (n : Node K V Z) → 0 < length (children_of n) → blocks_of n ≡ 2 + all_blocks (children_of n)
  blocks_inner n some =
      let inner = alone_inner n (λ leaf. let none = ap length (leaf_children n leaf) in omega (arith, some, none)) in
      omega (arith, blocks_are n, inner)

  pub blocks_both : (cs ds : List (Node K V Z)) → all_blocks (cs ++ ds) ≡ all_blocks cs + all_blocks ds
  blocks_both [] ds = omega arith
  blocks_both (c ∷ cs) ds = let i = blocks_both cs ds in omega (arith, i)

  pub blocks_put : (cs : List (Node K V Z)) (i : ℕ) (c : Node K V Z) → all_blocks (insert cs i c) ≡ all_blocks cs + blocks_of c
  blocks_put cs zero c = omega arith
  blocks_put [] (suc i) c = omega arith
  blocks_put (d ∷ cs) (suc i) c = let e = blocks_put cs i c in omega (arith, e)

  pub blocks_set : (cs : List (Node K V Z)) (i : ℕ) (c d : Node K V Z) → i < length cs
      → all_blocks (slice_set cs i c) + blocks_of (get_or cs i d) ≡ all_blocks cs + blocks_of c
  blocks_set [] i c d h = absurd (omega arith)
  blocks_set (e ∷ cs) zero c d h = omega arith
  blocks_set (e ∷ cs) (suc i) c d h = let f = blocks_set cs i c d (omega arith) in omega (arith, f)

  -- a child gave way to another: the node has as many blocks more as that one
  pub replaced_blocks : (n new c d : Node K V Z) (i : ℕ) → i < length (children_of n) → IsReplaced n new i d → c ≡ child_at n i
      → blocks_of new + blocks_of c ≡ blocks_of n + blocks_of d
  replaced_blocks n new c d i there m is =
      let a = blocks_inner n (omega (arith, there)) in
      let b = blocks_inner new (omega (arith, there, m.many)) in
      let children : all_blocks (children_of new) + blocks_of c ≡ all_blocks (children_of n) + blocks_of d =
      rw m.child (rw is (blocks_set (children_of n) i d n there)) in
      omega (arith, a, b, children)

  -- another node at the end of a way, with as many blocks
  pub with_blocks : (way : List ℕ) (n c : Node K V Z) → IsDescent way n → blocks_of c ≡ blocks_of (node_at way n)
      → blocks_of (with_node n way c) ≡ blocks_of n
  with_blocks [] n c d e = e
  with_blocks (i ∷ way) n c d e =
      let x = child_at n i in
      let r = with_blocks way x c d.1 e in
      let m = replaced_blocks n (with_node n (i ∷ way) c) x (with_node x way c) i d.0 (replaced n i (with_node x way c)) refl in
      omega (arith, r, m)

  made_blocks : (ps : List (K × V)) (o : Option (List (Node K V Z))) → blocks_of (roll-Node K V Z (record { pairs = ps; children = o }))
      ≡ blocks_step {K = K} {V = V} {Z = Z} (record { pairs = ps; children = option_map (map blocks_of) o })
  made_blocks ps o = fold-roll-Node K V Z ℕ blocks_step (record { pairs = ps; children = o }) ∙ ap (blocks_step {K = K} {V = V} {Z = Z}) (mapped blocks_of ps o)

module _ {K V Z : Type 0} where
  -- values have no block of their own
  abbrev IsAsMany : Node K V Z → Type 0
  IsAsMany n = blocks_of (bare n) ≡ blocks_of n

  all_as_many : (cs : List ((n : Node K V Z) × IsAsMany n)) → map blocks_of (map bare (map (λ e. e.0) cs)) ≡ map blocks_of (map (λ e. e.0) cs)
  all_as_many [] = refl
  all_as_many (c ∷ cs) = (λ i. c.1 i ∷ all_as_many cs i)

  made_as_many : (ps : List (K × V)) (o : Option (List ((n : Node K V Z) × IsAsMany n)))
      → IsAsMany (roll-Node K V Z (record { pairs = ps; children = option_map (map (λ e. e.0)) o }))
  made_as_many ps None = ap blocks_of (rolled ps None) ∙ made_blocks (map key_alone ps) None ∙ sym (made_blocks ps None)
  made_as_many ps (Some cs) =
      ap blocks_of (rolled ps (Some (map (λ e. e.0) cs))) ∙ made_blocks (map key_alone ps) (Some (map bare (map (λ e. e.0) cs)))
      ∙ ap (λ ns. 2 + total ns) (all_as_many cs) ∙ sym (made_blocks ps (Some (map (λ e. e.0) cs)))

  as_many : (n : Node K V Z) → IsAsMany n
  as_many = ind-Node K V Z IsAsMany (λ x y is.
      subst (λ z. IsAsMany (roll-Node K V Z z)) (sym (mapped (λ e. e.0) y.pairs y.children) ∙ is) (made_as_many y.pairs y.children))

  pub same_blocks : (n m : Node K V Z) → bare n ≡ bare m → blocks_of n ≡ blocks_of m
  same_blocks n m e = sym (as_many n) ∙ ap blocks_of e ∙ as_many m
