-- All pairs of a node, where a child is put in beside its pair, or what stands after a place moves away.
use Rattle.std.proofs.Common.{◌≡◌, ℕ, suc, ◌+◌, ◌<◌, ◌≤◌, [], ◌∷◌, ◌++◌, length, map, take, drop, sym, ap, ◌∙◌, arith, append_assoc, add-one, inl, inr}
use Rattle.std.specs.List.{insert}
use Rattle.std.proofs.lemmas.List.{length-map, map-append, append-nil, set-get_or, take_more}
use Rattle.fc_tree_node.specs.Weave.{weave, before_list, after_list}
use Rattle.fc_tree_node.specs.declared.node.Node.{Node}
use Rattle.fc_tree_node.specs.Node.{own_pairs, children_of, child_at, pairs_of, IsLeaf, IsInner}
use Rattle.fc_tree_node.specs.Path.{before_gap, after_gap}
use Rattle.fc_tree_node.specs.Siblings.{AreAlike}
use Rattle.fc_tree_node.proofs.Lists.{set_put, length_take, take_drop}
use Rattle.fc_tree_node.proofs.Weaves.{weave_at, weave_more, after_nil}
use Rattle.fc_tree_node.proofs.Pairs.{pairs_is, leaf_pairs, leaf_children}
use Rattle.fc_tree_node.proofs.Formed.{leaf_or_inner}
use Rattle.fc_tree_node.proofs.Siblings.{one_at, around_one, joined_pairs}

module _ {K V Z : Type 0} (old : Node K V Z) (i : ℕ) where
  module _ (inner : IsInner old) (h : i ≤ length (own_pairs old)) where
    fewer : i < length (children_of old)
    fewer = let n : length (children_of old) ≡ length (own_pairs old) + 1 = inner in omega arith

    lengths : length (take i (children_of old)) ≡ length (take i (own_pairs old))
    lengths = let k = fewer in length_take i (children_of old) (omega arith) ∙ sym (length_take i (own_pairs old) h)

    lead : before_gap (i ∷ []) old ≡ before_list (map pairs_of (take i (children_of old))) (take i (own_pairs old))
    lead = append-nil _

    -- a pair and a child put in after the child at i
    pub put_pairs : (c : Node K V Z) (pair : K × V) → weave (map pairs_of (insert (children_of old) (i + 1) c)) (insert (own_pairs old) i pair)
        ≡ before_gap (i ∷ []) old ++ (pairs_of (child_at old i) ++ pair ∷ (pairs_of c ++ after_gap (i ∷ []) old))
    put_pairs c pair =
        let e = ap (λ cs. insert cs (i + 1) c) (sym (set-get_or (children_of old) i old)) ∙ set_put (children_of old) i (child_at old i) c fewer in
        ap (λ cs. weave (map pairs_of cs) (insert (own_pairs old) i pair)) e
        ∙ ap (λ cs. weave cs (insert (own_pairs old) i pair)) (map-append pairs_of (take i (children_of old)) _)
        ∙ weave_at (map pairs_of (take i (children_of old))) (pairs_of (child_at old i)) _ (take i (own_pairs old)) (pair ∷ drop i (own_pairs old))
        (length-map (take i (children_of old)) pairs_of ∙ lengths)
        ∙ ap (λ ps. ps ++ (pairs_of (child_at old i) ++ pair ∷ (pairs_of c ++ after_gap (i ∷ []) old))) (sym lead)

    pub inserted_pairs : (new c : Node K V Z) (pair : K × V) → own_pairs new ≡ insert (own_pairs old) i pair
        → children_of new ≡ insert (children_of old) (i + 1) c → pairs_of new ≡ before_gap (i ∷ []) old
        ++ (pairs_of (child_at old i) ++ pair ∷ (pairs_of c ++ after_gap (i ∷ []) old))
    inserted_pairs new c pair p q =
        pairs_is new ∙ ap (λ cs. weave (map pairs_of cs) (own_pairs new)) q ∙ ap (λ ps. weave (map pairs_of (insert (children_of old) (i + 1) c)) ps) p
        ∙ put_pairs c pair

    pub halves_pairs : (l r c : Node K V Z) (up pair : K × V) → AreAlike l r → own_pairs l ++ up ∷ own_pairs r ≡ insert (own_pairs old) i pair
        → children_of l ++ children_of r ≡ insert (children_of old) (i + 1) c
        → pairs_of l ++ up ∷ pairs_of r ≡ before_gap (i ∷ []) old ++ (pairs_of (child_at old i) ++ pair ∷ (pairs_of c ++ after_gap (i ∷ []) old))
    halves_pairs l r c up pair a p q =
        joined_pairs l r up a ∙ ap (λ cs. weave (map pairs_of cs) (own_pairs l ++ up ∷ own_pairs r)) q
        ∙ ap (λ ps. weave (map pairs_of (insert (children_of old) (i + 1) c)) ps) p ∙ put_pairs c pair

  front_is : (h : i < length (children_of old)) → take (i + 1) (children_of old) ≡ take i (children_of old) ++ child_at old i ∷ []
  front_is h = take_more (children_of old) i old h

  pub leaf_front : (new : Node K V Z) → IsLeaf old → IsLeaf new → own_pairs new ≡ take i (own_pairs old) → pairs_of old ≡ pairs_of new ++ after_gap (i ∷ []) old
  leaf_front new a b p =
      leaf_pairs old a ∙ sym (take_drop i (own_pairs old)) ∙ ap (λ ps. ps ++ drop i (own_pairs old)) (sym (leaf_pairs new b ∙ p))
      ∙ ap (λ ps. pairs_of new ++ ps) (sym (ap (λ cs. after_list (drop i (own_pairs old)) (map pairs_of (drop (suc i) cs))) (leaf_children old a)
      ∙ after_nil (drop i (own_pairs old))))

  -- what stays where the end moved away
  pub front_pairs : (new : Node K V Z) → i ≤ length (own_pairs old) → AreAlike old new → own_pairs new ≡ take i (own_pairs old)
      → children_of new ≡ take (i + 1) (children_of old) → pairs_of old ≡ pairs_of new ++ after_gap (i ∷ []) old
  front_pairs new h (inl a) p c = leaf_front new a.0 a.1 p
  front_pairs new h (inr a) p c =
      let k = fewer a.0 h in
      let s = take i (children_of old) in
      let q = around_one new (child_at old i) (take i (children_of old)) [] (take i (own_pairs old)) [] (c ∙ front_is k) (p ∙ sym (append-nil _))
      (lengths a.0 h) in
      around_one old (child_at old i) _ _ (take i (own_pairs old)) (drop i (own_pairs old)) (one_at (children_of old) i old k)
      (sym (take_drop i (own_pairs old))) (lengths a.0 h)
      ∙ sym (append_assoc (before_list (map pairs_of (take i (children_of old))) (take i (own_pairs old))) (pairs_of (child_at old i)) _)
      ∙ ap (λ ps. ps ++ after_gap (i ∷ []) old) (sym (q ∙ ap (λ ps. before_list (map pairs_of (take i (children_of old))) (take i (own_pairs old)) ++ ps)
      (append-nil _)))

  pub leaf_back : (other new : Node K V Z) → IsLeaf old → IsLeaf other → IsLeaf new → own_pairs new ≡ own_pairs other ++ drop i (own_pairs old)
      → pairs_of new ≡ pairs_of other ++ after_gap (i ∷ []) old
  leaf_back other new a b₀ b₁ p =
      leaf_pairs new b₁ ∙ p ∙ ap (λ ps. ps ++ drop i (own_pairs old)) (sym (leaf_pairs other b₀))
      ∙ ap (λ ps. pairs_of other ++ ps) (sym (ap (λ cs. after_list (drop i (own_pairs old)) (map pairs_of (drop (suc i) cs))) (leaf_children old a)
      ∙ after_nil (drop i (own_pairs old))))

  -- what another node ends with, to which the end moved
  pub back_pairs : (other new : Node K V Z) → AreAlike old other → AreAlike other new → own_pairs new ≡ own_pairs other ++ drop i (own_pairs old)
      → children_of new ≡ children_of other ++ drop (i + 1) (children_of old) → pairs_of new ≡ pairs_of other ++ after_gap (i ∷ []) old
  back_pairs other new (inr a) (inl b) p c = absurd (leaf_or_inner other b.0 a.1)
  back_pairs other new (inl a) (inl b) p c = leaf_back other new a.0 b.0 b.1 p
  back_pairs other new a (inr b) p c =
      pairs_is new ∙ ap (λ cs. weave (map pairs_of cs) (own_pairs new)) (c ∙ ap (λ j. children_of other ++ drop j (children_of old)) (add-one i))
      ∙ ap (λ ps. weave (map pairs_of (children_of other ++ drop (suc i) (children_of old))) ps) p
      ∙ ap (λ cs. weave cs (own_pairs other ++ drop i (own_pairs old))) (map-append pairs_of (children_of other) _)
      ∙ weave_more (map pairs_of (children_of other)) _ (own_pairs other) (drop i (own_pairs old)) (length-map (children_of other) pairs_of ∙ b.0)
      ∙ ap (λ ps. ps ++ after_gap (i ∷ []) old) (sym (pairs_is other))
