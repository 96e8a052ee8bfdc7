-- The nodes of a spine one after another.
use Rattle.std.proofs.Common.{◌≡◌, ℕ, zero, suc, ◌+◌, ◌-◌, ◌<◌, List, [], ◌∷◌, ◌++◌, length, map, refl, sym, ap, ◌∙◌, subst, arith, add-one}
use Rattle.std.proofs.Common.{append_assoc, length-append}
use Rattle.std.specs.Prelude.{Bool, IsTrue, slice_index_or, get_or, take}
use Rattle.std.specs.Ordering.{is_lt}
use Rattle.std.specs.declared.cmp.Ordering.{Ordering}
use Rattle.std.specs.declared.cmp.Ordering.TheVariants.{Less, Equal, Greater}
use Rattle.std.proofs.lemmas.Bool.{false≢true}
use Rattle.std.proofs.Math.Seq.{take-suc, take-length}
use Rattle.std.proofs.lemmas.List.{length-map, nil_from_length}
use Rattle.fc_tree_node.specs.declared.node.Node.{Node}
use Rattle.fc_tree_node.specs.Node.{own_pairs, children_of, pairs_of}
use Rattle.fc_tree_node.specs.Weave.{before_list}
use Rattle.fc_tree_drain.specs.Opened.{before_back, closing}
use Rattle.fc_tree_drain.proofs.Opening.{back_push, empty_back}
use Rattle.fc_tree_build.specs.Spine.{IsOpenEnd, IsSpine, level_above}
use Rattle.fc_tree_build.specs.Built.{IsAfterLast}

-- an answer that is less
pub less_if : (o : Ordering) (b : Bool) → b ≡ is_lt o → IsTrue b → o ≡ Less
less_if Less b e h = refl
less_if Equal b e h = absurd (false≢true (sym e ∙ h))
less_if Greater b e h = absurd (false≢true (sym e ∙ h))

-- and so it is told
pub less_then : (o : Ordering) (b : Bool) → b ≡ is_lt o → o ≡ Less → IsTrue b
less_then Less b e h = e
less_then Equal b e h = absurd (cc h)
less_then Greater b e h = absurd (cc h)

module _ {X : Type 0} where
  pub last_same : (a b : List X) (x y : X) → a ++ x ∷ [] ≡ b ++ y ∷ [] → x ≡ y
  last_same [] [] x y e = cc e
  last_same [] (z ∷ b) x y e = absurd (let n = ap length e ∙ ap suc (length-append b (y ∷ [])) in omega arith)
  last_same (z ∷ a) [] x y e = absurd (let n = ap length e in let m = length-append a (x ∷ []) in omega arith)
  last_same (z ∷ a) (w ∷ b) x y e = last_same a b x y (cc e)

  -- where a list ends with an item, so does its back that has one
  last_of_back : (a b front : List X) (x : X) → 0 < length b → a ++ b ≡ front ++ x ∷ [] → (lead : List X) × (b ≡ lead ++ x ∷ [])
  last_of_back a [] front x some e = absurd (omega arith)
  last_of_back a (y ∷ []) front x some e = ([], ap (λ z. z ∷ []) (last_same a front y x e))
  last_of_back a (y ∷ z ∷ b) front x some e =
      let r = last_of_back (a ++ y ∷ []) (z ∷ b) front x (omega arith) (append_assoc a (y ∷ []) (z ∷ b) ∙ e) in
      (y ∷ r.0, ap (λ zs. y ∷ zs) r.1)

  pub taken : (s : List X) (i : ℕ) (b : X) → i < length s → b ≡ slice_index_or s i b → take (i + 1) s ≡ take i s ++ b ∷ []
  taken s i b h e = ap (λ j. take j s) (add-one i) ∙ take-suc s i b h ∙ ap (λ x. take i s ++ x ∷ []) (sym e)

  pub last_taken : (s : List X) (i : ℕ) (b : X) → i + 1 ≡ length s → b ≡ slice_index_or s i b → s ≡ take i s ++ b ∷ []
  last_taken s i b h e = sym (take-length s) ∙ ap (λ j. take j s) (sym h) ∙ taken s i b (omega arith) e

  -- as many lists as items end with the last item
  last_before : (i : ℕ) (ps : List X) (cs : List (List X)) (d : X) → length cs ≡ length ps → i + 1 ≡ length ps
      → (front : List X) × (before_list cs ps ≡ front ++ get_or ps i d ∷ [])
  last_before i [] cs d e l = absurd (omega arith)
  last_before i (p ∷ ps) [] d e l = absurd (omega arith)
  last_before zero (p ∷ []) (c ∷ []) d e l = (c, refl)
  last_before zero (p ∷ []) (c ∷ b ∷ cs) d e l = absurd (omega arith)
  last_before zero (p ∷ q ∷ ps) (c ∷ cs) d e l = absurd (omega arith)
  last_before (suc i) (p ∷ ps) (c ∷ cs) d e l =
      let r = last_before i ps cs d (omega arith) (omega arith) in
      (c ++ p ∷ r.0, ap (λ zs. c ++ p ∷ zs) r.1 ∙ sym (append_assoc c (p ∷ r.0) _))

module _ {K V : Type 0} where
  -- a key after the last pair of all is after that of the last leaf
  pub after_leaf : (cmp : K → K → Ordering) (front own s : List (K × V)) (k : K) → front ++ own ≡ s → 0 < length own → IsAfterLast cmp s k
      → IsAfterLast cmp own k
  after_leaf cmp front own s k e some b = let r = last_of_back front own b.0 b.1 some (e ∙ b.2) in (r.0, b.1, r.1, b.3)

  pub after_told : (cmp : K → K → Ordering) (front own : List (K × V)) (last : K × V) (k : K) → own ≡ front ++ last ∷ [] → IsAfterLast cmp own k
      → cmp last.0 k ≡ Less
  after_told cmp front own last k e b = ap (λ z. cmp z.0 k) (last_same front b.0 last b.1 (sym e ∙ b.2)) ∙ b.3

module _ {K V Z : Type 0} where
  pub spine_at : (h : ℕ) (s : List (Node K V Z)) (i : ℕ) (b : Node K V Z) → IsSpine h s → i < length s → b ≡ slice_index_or s i b → (k : ℕ) × IsOpenEnd k b
  spine_at h [] i b f l e = absurd (omega arith)
  spine_at h (x ∷ s) zero b f l e = (level_above h s, subst (λ y. IsOpenEnd (level_above h s) y) (sym e) f.0)
  spine_at h (x ∷ s) (suc i) b f l e = spine_at h s i b f.1 (omega arith) e

  -- a node with a pair ends with its last pair
  pub end_last : (s new : List (Node K V Z)) (b : Node K V Z) (k i : ℕ) (p : K × V) → new ≡ s ++ b ∷ [] → IsOpenEnd k b → i + 1 ≡ length (own_pairs b)
      → p ≡ slice_index_or (own_pairs b) i p → (front : List (K × V)) × (before_back new ≡ front ++ p ∷ [])
  end_last s new b k i p e o l f =
      let n = length-map (children_of b) pairs_of in
      let none : length (own_pairs b) - length (children_of b) ≡ 0 = omega arith in
      let r = last_before i (own_pairs b) (map pairs_of (children_of b)) p (omega arith) l in (
        before_back s ++ r.0,
        back_push s new b e ∙ ap (λ j. before_back s ++ closing j (own_pairs b) (map pairs_of (children_of b))) none
            ∙ ap (λ zs. before_back s ++ zs) r.1 ∙ ap (λ x. before_back s ++ (r.0 ++ x ∷ [])) (sym f) ∙ sym (append_assoc (before_back s) r.0 (p ∷ [])),
      )

  -- a node without a pair holds nothing
  pub end_none : (s new : List (Node K V Z)) (b : Node K V Z) (k : ℕ) → new ≡ s ++ b ∷ [] → IsOpenEnd k b → length (own_pairs b) ≡ 0
      → before_back new ≡ before_back s
  end_none s new b k e o l =
      let none = nil_from_length (children_of b) (omega arith) in
      back_push s new b e ∙ sym (empty_back b s 0 (omega arith, λ j. absurd (omega arith), none) l)
