-- A node opened at a child: what is before it, the child, and what is after it.
use Rattle.std.proofs.Common.{◌≡◌, ℕ, suc, ◌+◌, ◌<◌, List, [], ◌∷◌, ◌++◌, length, get_or, map, take, drop, refl, sym, ap, ◌∙◌, arith, append_assoc}
use Rattle.std.proofs.lemmas.List.{length-map, map-append, length-append}
use Rattle.fc_tree_node.specs.Weave.{before_list, after_list}
use Rattle.fc_tree_node.specs.declared.node.Node.{Node}
use Rattle.fc_tree_node.specs.Node.{own_pairs, children_of, child_at, pairs_of, IsInner}
use Rattle.fc_tree_node.specs.Place.{before_child, after_child}
use Rattle.fc_tree_node.proofs.Lists.{length_take}
use Rattle.fc_tree_node.proofs.Siblings.{one_at, two_at}
use Rattle.fc_tree_retain.proofs.Lists.{at_place, take_place, drop_place}

module _ {X : Type 0} where
  -- a list and an item more
  before_more : (cs : List (List X)) (c : List X) (ps : List X) (p : X) → length cs ≡ length ps
      → before_list (cs ++ c ∷ []) (ps ++ p ∷ []) ≡ before_list cs ps ++ (c ++ p ∷ [])
  before_more [] c [] p e = refl
  before_more [] c (q ∷ ps) p e = absurd (omega arith)
  before_more (d ∷ cs) c [] p e = absurd (omega arith)
  before_more (d ∷ cs) c (q ∷ ps) p e = ap (λ zs. d ++ q ∷ zs) (before_more cs c ps p (omega arith)) ∙ sym (append_assoc d (q ∷ before_list cs ps) _)

module _ {K V Z : Type 0} where
  pub record IsOpenAt (n : Node K V Z) (i : ℕ) (A : List (Node K V Z)) (c : Node K V Z) (D : List (Node K V Z)) (P Q : List (K × V)) : Type 0 where
    pub children : children_of n ≡ A ++ c ∷ D
    pub own : own_pairs n ≡ P ++ Q
    pub before : length A ≡ i
    pub own_before : length P ≡ i

  module _ (n : Node K V Z) (i : ℕ) (A : List (Node K V Z)) (c : Node K V Z) (D : List (Node K V Z)) (P Q : List (K × V)) (o : IsOpenAt n i A c D P Q) where
    pub open_before : before_child n i ≡ before_list (map pairs_of A) P
    open_before =
        ap (λ cs. before_list (map pairs_of cs) (take i (own_pairs n))) (ap (take i) o.children ∙ take_place A (c ∷ D) i o.before)
        ∙ ap (before_list (map pairs_of A)) (ap (take i) o.own ∙ take_place P Q i o.own_before)

    pub open_child : child_at n i ≡ c
    open_child = ap (λ cs. get_or cs i n) o.children ∙ at_place A D c n i o.before

    pub open_after : after_child n i ≡ after_list Q (map pairs_of D)
    open_after =
        ap (λ ps. after_list ps (map pairs_of (drop (suc i) (children_of n)))) (ap (drop i) o.own ∙ drop_place P Q i o.own_before)
        ∙ ap (λ cs. after_list Q (map pairs_of cs)) (ap (drop (suc i)) (o.children ∙ sym (append_assoc A (c ∷ []) D))
        ∙ drop_place (A ++ c ∷ []) D (suc i) (length-append A (c ∷ []) ∙ (omega arith)))

    pub open_inner : length D ≡ length Q → IsInner n
    open_inner e =
        let a = ap length o.children ∙ length-append A (c ∷ D) in
        let b = ap length o.own ∙ length-append P Q in
        omega arith

    -- the next child
    pub open_next : (q : K × V) (Q' : List (K × V)) (d : Node K V Z) (D' : List (Node K V Z)) → Q ≡ q ∷ Q' → D ≡ d ∷ D'
        → IsOpenAt n (i + 1) (A ++ c ∷ []) d D' (P ++ q ∷ []) Q'
    open_next q Q' d D' e f = record {
      children = o.children ∙ ap (λ ds. A ++ c ∷ ds) f ∙ sym (append_assoc A (c ∷ []) (d ∷ D'));
      own = o.own ∙ ap (λ qs. P ++ qs) e ∙ sym (append_assoc P (q ∷ []) Q');
      before = length-append A (c ∷ []) ∙ ap (λ k. k + 1) o.before;
      own_before = length-append P (q ∷ []) ∙ ap (λ k. k + 1) o.own_before;
    }

  pub before_next : (A : List (Node K V Z)) (c : Node K V Z) (P : List (K × V)) (q : K × V) → length A ≡ length P
      → before_list (map pairs_of (A ++ c ∷ [])) (P ++ q ∷ []) ≡ before_list (map pairs_of A) P ++ (pairs_of c ++ q ∷ [])
  before_next A c P q e = ap (λ cs. before_list cs (P ++ q ∷ [])) (map-append pairs_of A (c ∷ []))
      ∙ before_more (map pairs_of A) (pairs_of c) P q (length-map A pairs_of ∙ e)

  -- at a child with a pair after it
  pub opened_two : (n : Node K V Z) (i : ℕ) (e : K × V) → IsInner n → i < length (own_pairs n) → e ≡ get_or (own_pairs n) i e
      → IsOpenAt n i (take i (children_of n)) (child_at n i) (child_at n (i + 1) ∷ drop (suc (suc i)) (children_of n)) (take i (own_pairs n))
      (e ∷ drop (suc i) (own_pairs n))
  opened_two n i e inner lt q =
      let k : length (children_of n) ≡ length (own_pairs n) + 1 = inner in
      record {
        children = two_at (children_of n) i n (omega arith);
        own = one_at (own_pairs n) i e lt ∙ ap (λ x. take i (own_pairs n) ++ x ∷ drop (suc i) (own_pairs n)) (sym q);
        before = length_take i (children_of n) (omega arith);
        own_before = length_take i (own_pairs n) (omega arith);
      }
