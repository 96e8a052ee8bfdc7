-- A node made of its parts.
use Rattle.std.proofs.Common.{◌≡◌, ℕ, ◌+◌, List, [], ◌∷◌, ◌++◌, length, take, sym, ap, ◌∙◌, arith, Some, take_all, append_assoc}
use Rattle.std.proofs.lemmas.List.Edits.{insert_end}
use Rattle.std.specs.List.{insert}
use Rattle.fc_tree_node.specs.declared.node.Node.{Node, Node-F, out-Node, roll-Node, out-roll-Node}
use Rattle.fc_tree_node.specs.Node.{items_or_none, own_pairs, children_of, IsInner}

module _ {K V Z : Type 0} where
  pub own_made : (f : Node-F K V Z (Node K V Z)) → own_pairs (roll-Node K V Z f) ≡ f.pairs
  own_made f = ap (λ r. r.pairs) (out-roll-Node K V Z f)

  pub children_made : (f : Node-F K V Z (Node K V Z)) → children_of (roll-Node K V Z f) ≡ items_or_none f.children
  children_made f = ap (λ r. items_or_none r.children) (out-roll-Node K V Z f)

  pub field_made : (f : Node-F K V Z (Node K V Z)) → (out-Node K V Z (roll-Node K V Z f)).children ≡ f.children
  field_made f = ap (λ r. r.children) (out-roll-Node K V Z f)

  pub inner_made : (f : Node-F K V Z (Node K V Z)) → length (items_or_none f.children) ≡ length f.pairs + 1 → IsInner (roll-Node K V Z f)
  inner_made f e =
      let a : length (own_pairs (roll-Node K V Z f)) ≡ length f.pairs = ap length (own_made f) in
      let b : length (children_of (roll-Node K V Z f)) ≡ length (items_or_none f.children) = ap length (children_made f) in
      omega arith

  -- the children in the list that a node has
  pub children_in : (n : Node K V Z) (bs : List (Node K V Z)) → (out-Node K V Z n).children ≡ Some bs → children_of n ≡ bs
  children_in n bs e = ap items_or_none e

  pub inner_length : (n : Node K V Z) (bs : List (Node K V Z)) → (out-Node K V Z n).children ≡ Some bs → IsInner n → length bs ≡ length (own_pairs n) + 1
  inner_length n bs e h = ap length (sym (children_in n bs e)) ∙ h

  -- the children of two nodes made of two parts of one list
  pub children_joined : (f f' : Node-F K V Z (Node K V Z)) (cs : List (Node K V Z)) (i : ℕ) (c : Node K V Z)
      → items_or_none f.children ++ items_or_none f'.children ≡ insert cs i c
      → children_of (roll-Node K V Z f) ++ children_of (roll-Node K V Z f') ≡ insert cs i c
  children_joined f f' cs i c e =
      ap (λ zs. zs ++ children_of (roll-Node K V Z f')) (children_made f) ∙ ap (λ zs. items_or_none f.children ++ zs) (children_made f')
      ∙ e

  -- the children of two nodes whose lists together hold what two others did
  pub children_kept : (n m : Node K V Z) (f f' : Node-F K V Z (Node K V Z)) (bs cs : List (Node K V Z)) → (out-Node K V Z n).children ≡ Some bs
      → (out-Node K V Z m).children ≡ Some cs → items_or_none f.children ++ items_or_none f'.children ≡ bs ++ cs
      → children_of (roll-Node K V Z f) ++ children_of (roll-Node K V Z f') ≡ children_of n ++ children_of m
  children_kept n m f f' bs cs p q e =
      ap (λ zs. zs ++ children_of (roll-Node K V Z f')) (children_made f) ∙ ap (λ zs. items_or_none f.children ++ zs) (children_made f')
      ∙ e ∙ ap (λ zs. zs ++ cs) (sym (children_in n bs p)) ∙ ap (λ zs. children_of n ++ zs) (sym (children_in m cs q))

  -- two nodes made of two parts of one list and the pair between them
  pub halves_made : (f f' : Node-F K V Z (Node K V Z)) (up : K × V) (xs : List (K × V)) → f.pairs ++ up ∷ f'.pairs ≡ xs
      → own_pairs (roll-Node K V Z f) ++ up ∷ own_pairs (roll-Node K V Z f') ≡ xs
  halves_made f f' up xs e = ap (λ ps. ps ++ up ∷ own_pairs (roll-Node K V Z f')) (own_made f) ∙ ap (λ ps. f.pairs ++ up ∷ ps) (own_made f') ∙ e

-- the items of xs, then p, then all of ys
pub joined_items : {X : Type 0} (xs ys ps qs : List X) (p : X) (mid all : ℕ) → mid ≡ length xs → all ≡ length ys → ps ≡ insert xs mid p → qs ≡ ps ++ take all ys
    → qs ≡ xs ++ p ∷ ys
joined_items xs ys ps qs p mid all m a e f =
    f ∙ (λ i. e i ++ take_all all ys (omega arith) i) ∙ (λ i. insert xs (m i) p ++ ys) ∙ ap (λ l. l ++ ys) (insert_end xs p) ∙ append_assoc xs (p ∷ []) ys
