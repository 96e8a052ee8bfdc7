-- A way to a node further down, and a tree with another node at its end.
use Rattle.std.proofs.Common.{◌≡◌, ℕ, zero, suc, ◌+◌, ◌-◌, ◌<◌, ◌≤◌, List, [], ◌∷◌, ◌++◌, length, get_or, take, refl, sym, ap, subst, ◌∙◌, arith}
use Rattle.std.proofs.Common.{append_assoc, append-nil}
use Rattle.std.specs.Prelude.{slice_range, slice_set}
use Rattle.std.specs.Option.{option_map}
use Rattle.fc_base.specs.Sizes.{min_len}
use Rattle.fc_tree_node.specs.declared.node.Node.{Node, out-Node, roll-Node}
use Rattle.fc_tree_node.specs.Node.{own_pairs, children_of, child_at, pairs_of, IsLevelled}
use Rattle.fc_tree_node.specs.Path.{IsPath, before_gap, after_gap}
use Rattle.fc_tree_node.specs.Place.{before_child, after_child, IsDescent, node_at, IsPlace}
use Rattle.fc_tree_node.specs.Way.{with_pairs, with_node}
use Rattle.fc_tree_node.proofs.Pairs.{child_below}
use Rattle.fc_tree_node.proofs.PathSteps.{take_all}
use Rattle.fc_tree_node.proofs.Gaps.{step_levels}
use Rattle.fc_tree_node.proofs.Lent.{replaced, replaced_levels}

-- a path, as the way to its last step, and that step
pub last_step : (path : List ℕ) (last : ℕ) → last + 1 ≡ length path → path ≡ take last path ++ get_or path last 0 ∷ []
last_step [] last e = absurd (omega arith)
last_step (i ∷ []) zero e = refl
last_step (i ∷ j ∷ path) zero e = absurd (omega arith)
last_step (i ∷ path) (suc last) e = ap (λ q. i ∷ q) (last_step path last (omega arith))

module _ {K V Z : Type 0} where
  -- a way of some steps
  pub below_there : (way : List ℕ) (n : Node K V Z) → (length way ≡ 0 → ⊥) → IsDescent way n → get_or way 0 0 < length (children_of n)
  below_there [] n more d = absurd (more refl)
  below_there (i ∷ way) n more d = d.0

  pub below_pairs : (way : List ℕ) (n c : Node K V Z) → (length way ≡ 0 → ⊥) → c ≡ child_at n (get_or way 0 0)
      → own_pairs (node_at (slice_range way 1 (length way)) c) ≡ own_pairs (node_at way n)
  below_pairs [] n c more is = absurd (more refl)
  below_pairs (i ∷ way) n c more is =
      ap (λ r. own_pairs (node_at r c)) (take_all way (suc (length way) - 1) (omega arith)) ∙ ap (λ m. own_pairs (node_at way m)) is

  abbrev with_child : Node K V Z → ℕ → Node K V Z → Node K V Z
  with_child n i c = roll-Node K V Z (record { pairs = own_pairs n; children = option_map (λ cs. slice_set cs i c) (out-Node K V Z n).children })

  -- what a child leaves where pairs were lent below it
  pub below_with : (way : List ℕ) (n c : Node K V Z) (ps : List (K × V)) → (length way ≡ 0 → ⊥) → c ≡ child_at n (get_or way 0 0)
      → with_child n (get_or way 0 0) (with_node c (slice_range way 1 (length way)) (with_pairs (node_at (slice_range way 1 (length way)) c) ps))
      ≡ with_node n way (with_pairs (node_at way n) ps)
  below_with [] n c ps more is = absurd (more refl)
  below_with (i ∷ way) n c ps more is =
      ap (λ r. with_child n i (with_node c r (with_pairs (node_at r c) ps))) (take_all way (suc (length way) - 1) (omega arith))
      ∙ ap (λ m. with_child n i (with_node m way (with_pairs (node_at way m) ps))) is

  -- the way of a path to a gap of a leaf
  pub path_way : (way : List ℕ) (i : ℕ) (n : Node K V Z) → IsPath (way ++ i ∷ []) n → IsLevelled (length way) n
      → IsDescent way n × (i ≤ length (own_pairs (node_at way n))) × IsLevelled 0 (node_at way n)
  path_way [] i n p l = (tt, p.0, l)
  path_way (j ∷ way) i n p l =
      let inner : length (children_of n) ≡ length (own_pairs n) + 1 = l.1 in
      let r = path_way way i (child_at n j) p.1 (child_below (length way) n j l p.0).1 in
      ((omega (arith, p.0), r.0), r.1, r.2)

  -- the way of a path to a pair
  pub place_way : (way : List ℕ) (i : ℕ) (n : Node K V Z) → IsPlace (way ++ i ∷ []) n → IsDescent way n × (i < length (own_pairs (node_at way n)))
  place_way [] i n p = (tt, p)
  place_way (j ∷ []) i n p = ((p.0, tt), p.1)
  place_way (j ∷ j' ∷ way) i n p = let r = place_way (j' ∷ way) i (child_at n j) p.1 in ((p.0, r.0), r.1)

  -- a tree in which the node at the end of the way gave way to c
  pub record IsWithNode (way : List ℕ) (n c new : Node K V Z) : Type 0 where
    pub descent : IsDescent way new
    pub here : node_at way new ≡ c
    pub before : before_gap way new ≡ before_gap way n
    pub after : after_gap way new ≡ after_gap way n

  pub with_is : (way : List ℕ) (n c : Node K V Z) → IsDescent way n → IsWithNode way n c (with_node n way c)
  with_is [] n c d = record { descent = tt; here = refl; before = refl; after = refl }
  with_is (i ∷ way) n c d =
      let m = replaced n i (with_node (child_at n i) way c) in
      let r = with_is way (child_at n i) c d.1 in
      let at = m.here d.0 in
      let new = with_node n (i ∷ way) c in
      record {
        descent = (omega (arith, m.many, d.0), subst (IsDescent way) (sym at) r.descent);
        here = ap (node_at way) at ∙ r.here;
        before = ap (λ zs. zs ++ before_gap way (child_at new i)) m.before ∙ ap (λ x. before_child n i ++ before_gap way x) at
            ∙ ap (λ zs. before_child n i ++ zs) r.before;
        after = ap (λ zs. after_gap way (child_at new i) ++ zs) m.after ∙ ap (λ x. after_gap way x ++ after_child n i) at
            ∙ ap (λ zs. zs ++ after_child n i) r.after;
      }

  -- its pairs
  pub with_pairs_of : (way : List ℕ) (h : ℕ) (n c : Node K V Z) → IsLevelled h n → IsDescent way n
      → pairs_of (with_node n way c) ≡ before_gap way n ++ (pairs_of c ++ after_gap way n)
  with_pairs_of [] h n c l d = sym (append-nil (pairs_of c))
  with_pairs_of (i ∷ way) h n c l d =
      let s = step_levels h n i l d.0 in
      let x = child_at n i in
      (replaced n i (with_node x way c)).pairs s.4 s.3
      ∙ ap (λ zs. before_child n i ++ (zs ++ after_child n i)) (with_pairs_of way s.0 x c s.2 d.1)
      ∙ regroup (before_child n i) (before_gap way x) (pairs_of c) (after_gap way x) (after_child n i)
    where
      regroup : (a b m c d : List (K × V)) → a ++ ((b ++ (m ++ c)) ++ d) ≡ (a ++ b) ++ (m ++ (c ++ d))
      regroup a b m c d = simp append_assoc

  -- how many pairs its first node holds at least
  pub with_least : (way : List ℕ) (n c : Node K V Z) (least : ℕ) → (least ≤ length (own_pairs (node_at way n)) → least ≤ length (own_pairs c))
      → least ≤ length (own_pairs n) → least ≤ length (own_pairs (with_node n way c))
  with_least [] n c least kept le = kept le
  with_least (i ∷ way) n c least kept le = let m = replaced n i (with_node (child_at n i) way c) in omega (arith, m.size, le)

  -- its levels
  pub with_levels : (way : List ℕ) (h g : ℕ) (n c : Node K V Z) → IsLevelled h n → IsDescent way n → length way + g ≡ h → IsLevelled g c
      → (min_len ≤ length (own_pairs (node_at way n)) → min_len ≤ length (own_pairs c)) → IsLevelled h (with_node n way c)
  with_levels [] h g n c l d e lc kept = let z : g ≡ h = omega (arith, e) in subst (λ k. IsLevelled k c) z lc
  with_levels (i ∷ way) h g n c l d e lc kept =
      let s = step_levels h n i l d.0 in
      let x = child_at n i in
      let m : IsLevelled (suc s.0) n = subst (λ k. IsLevelled k n) s.1 l in
      let b = child_below s.0 n i m s.3 in
      let r = with_levels way s.0 g x c s.2 d.1 (let k = s.1 in omega (arith, e, k)) lc kept in
      subst (λ k. IsLevelled k (with_node n (i ∷ way) c)) (sym s.1)
      (replaced_levels s.0 (replaced n i (with_node x way c)) m (with_least way x c min_len kept b.0, r))
