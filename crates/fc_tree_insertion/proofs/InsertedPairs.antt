-- What an insertion below a node does to the node's pairs.
use Rattle.std.proofs.Common.{◌≡◌, ℕ, suc, ◌+◌, ◌<◌, ◌≤◌, List, [], ◌∷◌, ◌++◌, length, get_or, map, take, drop, sym, ap, ◌∙◌, subst, arith, append_assoc, Some}
use Rattle.std.proofs.Common.{None, IfSome}
use Rattle.std.specs.Prelude.{slice_range}
use Rattle.std.specs.List.{insert}
use Rattle.std.proofs.lemmas.List.{length-map, map-append, append-nil}
use Rattle.fc_tree_node.specs.Weave.{weave, before_list, after_list}
use Rattle.fc_tree_node.specs.declared.node.Node.{Node}
use Rattle.fc_tree_node.specs.Node.{own_pairs, children_of, child_at, pairs_of, IsLeaf, IsInner}
use Rattle.fc_tree_node.specs.Path.{before_gap, after_gap}
use Rattle.fc_tree_node.specs.Place.{before_child, after_child}
use Rattle.fc_tree_insertion.specs.Insertion.{Split, spread, own_pairs_after, children_after}
use Rattle.fc_tree_node.proofs.Lists.{take_nil, length_take, set_put}
use Rattle.fc_tree_node.proofs.Weaves.{after_nil, weave_at, weave_parts}
use Rattle.fc_tree_node.proofs.Pairs.{pairs_is, leaf_children, leaf_pairs}
use Rattle.fc_tree_node.proofs.Lent.{IsReplaced}
use Rattle.fc_tree_node.proofs.PathSteps.{IsStep}

module _ {X : Type 0} where
  -- what is put in between stays between what stands around it
  around : (A L R B : List X) (p : X) → A ++ ((L ++ p ∷ R) ++ B) ≡ (A ++ L) ++ p ∷ (R ++ B)
  around A L R B p = ap (λ zs. A ++ zs) (append_assoc L (p ∷ R) B) ∙ sym (append_assoc A L _)

  pub stays_around : (A C B L R : List X) (p : X) → C ≡ L ++ p ∷ R → A ++ (C ++ B) ≡ (A ++ L) ++ p ∷ (R ++ B)
  stays_around A C B L R p e = ap (λ zs. A ++ (zs ++ B)) e ∙ around A L R B p

module _ {K V Z : Type 0} where
  pub leaf_before : (n : Node K V Z) (i : ℕ) → IsLeaf n → before_gap (i ∷ []) n ≡ take i (own_pairs n)
  leaf_before n i e = append-nil _ ∙ ap (λ cs. before_list (map pairs_of (take i cs)) (take i (own_pairs n))) (leaf_children n e)
      ∙ ap (λ cs. before_list (map pairs_of cs) (take i (own_pairs n))) (take_nil i)

  leaf_after : (n : Node K V Z) (i : ℕ) → IsLeaf n → after_gap (i ∷ []) n ≡ drop i (own_pairs n)
  leaf_after n i e = ap (λ cs. after_list (drop i (own_pairs n)) (map pairs_of (drop (suc i) cs))) (leaf_children n e) ∙ after_nil (drop i (own_pairs n))

  leaf_spread : (new : Node K V Z) (s : Split K V Z) → IsLeaf new → IfSome s (λ x. IsLeaf x.1) → spread new s ≡ own_pairs_after new s
  leaf_spread new None e h = leaf_pairs new e
  leaf_spread new (Some (up, right)) e h = ap (λ zs. zs ++ up ∷ pairs_of right) (leaf_pairs new e) ∙ ap (λ zs. own_pairs new ++ up ∷ zs) (leaf_pairs right h)

  leaf_put : (old new : Node K V Z) (i : ℕ) (s : Split K V Z) (pair : K × V) → IsLeaf old → IsLeaf new → IfSome s (λ x. IsLeaf x.1)
      → own_pairs_after new s ≡ insert (own_pairs old) i pair → spread new s ≡ before_gap (i ∷ []) old ++ pair ∷ after_gap (i ∷ []) old
  leaf_put old new i s pair e f h p =
      leaf_spread new s f h ∙ p ∙ sym (ap (λ zs. zs ++ pair ∷ after_gap (i ∷ []) old) (leaf_before old i e)
      ∙ ap (λ zs. take i (own_pairs old) ++ pair ∷ zs) (leaf_after old i e))

  -- into a leaf
  pub put_in_leaf : (p : List ℕ) (old new : Node K V Z) (s : Split K V Z) (pair : K × V) → p ≡ get_or p 0 0 ∷ [] → IsLeaf old → IsLeaf new
      → IfSome s (λ x. IsLeaf x.1)
      → own_pairs_after new s ≡ insert (own_pairs old) (get_or p 0 0) pair → spread new s ≡ before_gap p old ++ pair ∷ after_gap p old
  put_in_leaf p old new s pair o e f h q =
      subst (λ (r : List ℕ). spread new s ≡ before_gap r old ++ pair ∷ after_gap r old) (sym o) (leaf_put old new (get_or p 0 0) s pair e f h q)

  inner_spread : (new : Node K V Z) (s : Split K V Z) → IsInner new → IfSome s (λ x. IsInner x.1)
      → spread new s ≡ weave (map pairs_of (children_after new s)) (own_pairs_after new s)
  inner_spread new None n h = pairs_is new
  inner_spread new (Some (up, right)) n h =
      let a : length (map pairs_of (children_of new)) ≡ length (own_pairs new) + 1 = length-map (children_of new) pairs_of ∙ n in
      let b₀ : length (children_of right) ≡ length (own_pairs right) + 1 = h in
      let b₁ = length-map (children_of right) pairs_of in
      let b : 0 < length (map pairs_of (children_of right)) = omega arith in
      ap (λ zs. zs ++ up ∷ pairs_of right) (pairs_is new) ∙ ap (λ zs. weave (map pairs_of (children_of new)) (own_pairs new) ++ up ∷ zs) (pairs_is right)
      ∙ sym (weave_parts (map pairs_of (children_of new)) (map pairs_of (children_of right)) (own_pairs new) up (own_pairs right) a b)
      ∙ ap (λ cs. weave cs (own_pairs new ++ up ∷ own_pairs right)) (sym (map-append pairs_of (children_of new) (children_of right)))

  module _ (old : Node K V Z) (i : ℕ) (le : i ≤ length (own_pairs old)) (inner : IsInner old) where
    lengths : length (map pairs_of (take i (children_of old))) ≡ length (take i (own_pairs old))
    lengths =
        let n : length (children_of old) ≡ length (own_pairs old) + 1 = inner in
        let k : i ≤ length (children_of old) = omega arith in
        length-map (take i (children_of old)) pairs_of ∙ length_take i (children_of old) k ∙ sym (length_take i (own_pairs old) le)

    -- the child's pairs stand between those of the others
    woven_at : (c : Node K V Z) (ds : List (Node K V Z)) (qs : List (K × V))
        → weave (map pairs_of (take i (children_of old) ++ c ∷ ds)) (take i (own_pairs old) ++ qs)
        ≡ before_list (map pairs_of (take i (children_of old))) (take i (own_pairs old)) ++ (pairs_of c ++ after_list qs (map pairs_of ds))
    woven_at c ds qs = ap (λ cs. weave cs (take i (own_pairs old) ++ qs)) (map-append pairs_of (take i (children_of old)) (c ∷ ds))
        ∙ weave_at (map pairs_of (take i (children_of old))) (pairs_of c) (map pairs_of ds) (take i (own_pairs old)) qs lengths

    -- the pairs of a node whose child has become c, once it has taken the pair and the node that the child has handed out
    pub split_pairs : (mid c new : Node K V Z) (s : Split K V Z) (up : K × V) (r : Node K V Z) → IsReplaced old mid i c
        → own_pairs_after new s ≡ insert (own_pairs mid) i up → children_after new s ≡ insert (children_of mid) (i + 1) r → IsInner new
        → IfSome s (λ x. IsInner x.1)
        → spread new s ≡ before_child old i ++ ((pairs_of c ++ up ∷ pairs_of r) ++ after_child old i)
    split_pairs mid c new s up r m p q h₁ h₂ =
        let n : length (children_of old) ≡ length (own_pairs old) + 1 = inner in
        let k : i < length (children_of old) = omega arith in
        inner_spread new s h₁ h₂ ∙ ap (λ ps. weave (map pairs_of (children_after new s)) ps) (p ∙ ap (λ ps. insert ps i up) m.same)
        ∙ ap (λ cs. weave (map pairs_of cs) (insert (own_pairs old) i up)) (q ∙ ap (λ cs. insert cs (i + 1) r) m.child ∙ set_put (children_of old) i c r k)
        ∙ woven_at c (r ∷ drop (suc i) (children_of old)) (up ∷ drop i (own_pairs old))
        ∙ ap (λ zs. before_child old i ++ zs) (sym (append_assoc (pairs_of c) (up ∷ pairs_of r) (after_child old i)))

    inner_stay : (path : List ℕ) (mid c : Node K V Z) (pair : K × V) → IsReplaced old mid i c
        → pairs_of c ≡ before_gap path (child_at old i) ++ pair ∷ after_gap path (child_at old i)
        → pairs_of mid ≡ before_gap (i ∷ path) old ++ pair ∷ after_gap (i ∷ path) old
    inner_stay path mid c pair m e = m.pairs inner le ∙ stays_around _ _ _ _ _ pair e

    inner_put : (path : List ℕ) (mid c new : Node K V Z) (s : Split K V Z) (up pair : K × V) (r : Node K V Z) → IsReplaced old mid i c
        → own_pairs_after new s ≡ insert (own_pairs mid) i up → children_after new s ≡ insert (children_of mid) (i + 1) r → IsInner new
        → IfSome s (λ x. IsInner x.1)
        → pairs_of c ++ up ∷ pairs_of r ≡ before_gap path (child_at old i) ++ pair ∷ after_gap path (child_at old i)
        → spread new s ≡ before_gap (i ∷ path) old ++ pair ∷ after_gap (i ∷ path) old
    inner_put path mid c new s up pair r m p q h₁ h₂ e = split_pairs mid c new s up r m p q h₁ h₂ ∙ stays_around _ _ _ _ _ pair e

  -- below an inner node, where the child was not split
  pub put_below : (p : List ℕ) (old mid c child : Node K V Z) (pair : K × V) → IsStep p old → IsReplaced old mid (get_or p 0 0) c
      → child ≡ child_at old (get_or p 0 0)
      → pairs_of c ≡ before_gap (slice_range p 1 (length p)) child ++ pair ∷ after_gap (slice_range p 1 (length p)) child
      → pairs_of mid ≡ before_gap p old ++ pair ∷ after_gap p old
  put_below p old mid c child pair s m ci e =
      let rest : List ℕ = slice_range p 1 (length p) in
      let f = subst (λ (x : Node K V Z). pairs_of c ≡ before_gap rest x ++ pair ∷ after_gap rest x) ci e in
      subst (λ (q : List ℕ). pairs_of mid ≡ before_gap q old ++ pair ∷ after_gap q old) (sym s.path_is)
      (inner_stay old (get_or p 0 0) s.le s.inner rest mid c pair m f)

  -- below an inner node, where the child was split
  pub put_above : (p : List ℕ) (old mid c child new : Node K V Z) (t : Split K V Z) (up pair : K × V) (r : Node K V Z) → IsStep p old
      → IsReplaced old mid (get_or p 0 0) c → child ≡ child_at old (get_or p 0 0)
      → own_pairs_after new t ≡ insert (own_pairs mid) (get_or p 0 0) up → children_after new t ≡ insert (children_of mid) (get_or p 0 0 + 1) r → IsInner new
      → IfSome t (λ x. IsInner x.1)
      → pairs_of c ++ up ∷ pairs_of r ≡ before_gap (slice_range p 1 (length p)) child ++ pair ∷ after_gap (slice_range p 1 (length p)) child
      → spread new t ≡ before_gap p old ++ pair ∷ after_gap p old
  put_above p old mid c child new t up pair r s m ci a b h₁ h₂ e =
      let rest : List ℕ = slice_range p 1 (length p) in
      let f = subst (λ (x : Node K V Z). pairs_of c ++ up ∷ pairs_of r ≡ before_gap rest x ++ pair ∷ after_gap rest x) ci e in
      subst (λ (q : List ℕ). spread new t ≡ before_gap q old ++ pair ∷ after_gap q old) (sym s.path_is)
      (inner_put old (get_or p 0 0) s.le s.inner rest mid c new t up pair r m a b h₁ h₂ f)

  -- a new root above two nodes
  pub put_root : (root left right : Node K V Z) (up : K × V) → own_pairs root ≡ up ∷ [] → children_of root ≡ left ∷ right ∷ []
      → pairs_of root ≡ pairs_of left ++ up ∷ pairs_of right
  put_root root left right up e f =
      pairs_is root ∙ ap (λ ps. weave (map pairs_of (children_of root)) ps) e ∙ ap (λ cs. weave (map pairs_of cs) (up ∷ [])) f
      ∙ ap (λ zs. pairs_of left ++ up ∷ zs) (append-nil (pairs_of right))
