-- The ends of a walk, where they are found, and where they are looked for.
use Rattle.std.proofs.Common.{◌≡◌, ℕ, List, [], ◌∷◌, ◌++◌, length, append-nil, refl, sym, ap, subst, ◌∙◌, arith, inl, inr, Option, Some, None}
use Rattle.std.specs.Prelude.{◌↔◌, slice_range}
use Rattle.fc_tree_node.specs.declared.node.Node.{Node}
use Rattle.fc_tree_node.specs.Node.{pairs_of}
use Rattle.fc_tree_node.specs.LeafGap.{IsLeafGap}
use Rattle.fc_tree_node.specs.Path.{before_gap}
use Rattle.fc_tree_node.specs.Tree.{Map, entries, IsSoundMap}
use Rattle.fc_tree_node.specs.TreePlace.{before_gap_in}
use Rattle.fc_tree_cursor.specs.Gap.{IsGapIn, AreEndsIn, IsAbove}
use Rattle.fc_tree_cursor.specs.Span.{IsPart, between, before_back, left_between, AreEndsSoughtIn, AreKnownIn}
use Rattle.fc_tree_cursor.proofs.Slices.{slice_split}

module _ {K V Z : Type 0} where
  -- What is before a gap is before a back that is found.
  pub back_of_gap : (m : Map K V Z) (back : List ℕ) → IsSoundMap m → IsGapIn m back → length (before_gap_in m back) ≡ before_back m back
  back_of_gap None [] o g = refl
  back_of_gap None (i ∷ path) o g = refl
  back_of_gap (Some root) [] o g = absurd (let e = g.1 o.0 o.2.1 in omega (arith, e))
  back_of_gap (Some root) (i ∷ path) o g = refl

  -- An end that has to be looked for is none that was found before.
  pub not_sought : (m : Map K V Z) (old new : List ℕ) → IsSoundMap m → length old ≡ 0 → IsGapIn m new
      → (length (before_gap_in m old) ≡ 0) × (before_back m old ≡ length (entries m)) × (IsGapIn m old → new ≡ old)
  not_sought m (j ∷ old) new o e g = absurd (omega arith)
  not_sought None [] new o e g = (refl, refl, λ w. g)
  not_sought (Some root) [] new o e g = (refl, refl, λ w. absurd (let long = w.1 o.0 o.2.1 in omega arith))

  -- Found ends are ends, with the same pairs between.
  pub ends_found : (m : Map K V Z) (front back : List ℕ) → IsSoundMap m → AreEndsIn m front back → AreEndsSoughtIn m front back
  ends_found m front back o e = let same = back_of_gap m back o e.1 in (inr e.0, inr e.1, omega arith)

  pub left_found : (m : Map K V Z) (front back : List ℕ) → IsSoundMap m → AreEndsIn m front back → between m front back ≡ left_between m front back
  left_found m front back o e = ap (slice_range (entries m) (length (before_gap_in m front))) (back_of_gap m back o e.1)

  pub met_found : {R : Type 0} (m : Map K V Z) (front back : List ℕ) → IsSoundMap m → AreEndsIn m front back → (R ↔ (between m front back ≡ []))
      → R ↔ (left_between m front back ≡ [])
  met_found m front back o e f = let same = left_found m front back o e in ((λ r. sym same ∙ f.0 r), (λ z. f.1 (same ∙ z)))

  -- A node that is known stays the one above, where what is found stays.
  pub known_above : (m : Map K V Z) (front back new other : List ℕ) (above_front above_back : Option (Node K V Z))
      → AreKnownIn m front back above_front above_back → (AreEndsIn m front back → (new ≡ front) × (other ≡ back))
      → IsAbove m new above_front × IsAbove m other above_back
  known_above m front back new other f b (inl k) same = let s = same k.0 in (subst (λ p. IsAbove m p f) (sym s.0) k.1, subst (λ p. IsAbove m p b) (sym s.1) k.2)
  known_above m front back new other f b (inr k) same = (subst (IsAbove m new) (sym k.1) (λ r e. tt), subst (IsAbove m other) (sym k.2) (λ r e. tt))

  -- The run of one end is taken, and the other is not looked for.
  module _ (m : Map K V Z) (n : Node K V Z) (run w : List (K × V)) (is : m ≡ Some n) (front back : List ℕ) (i j : ℕ) (p : IsPart run (pairs_of n) i j) where
    pub start_taken : back ≡ [] → IsLeafGap front n × (length (before_gap front n) ≡ j) → slice_range (pairs_of n) i (length (pairs_of n)) ≡ w
        → w ≡ run ++ (left_between m front back ++ [])
    start_taken none g all =
        sym all ∙ slice_split (pairs_of n) i j _ p.0 p.1 ∙ ap (λ xs. xs ++ slice_range (pairs_of n) j (length (pairs_of n))) (sym p.2)
        ∙ ap (λ xs. run ++ xs) (ap (λ k. slice_range (pairs_of n) k (length (pairs_of n))) (sym g.1) ∙ ap (λ d. left_between d front []) (sym is)
        ∙ ap (left_between m front) (sym none) ∙ sym (append-nil _))

    pub stop_taken : IsSoundMap m → front ≡ [] → IsLeafGap back n × (length (before_gap back n) ≡ i) → slice_range (pairs_of n) 0 j ≡ w
        → w ≡ left_between m front back ++ run
    stop_taken o none g all =
        sym all ∙ slice_split (pairs_of n) 0 i j (omega arith) p.0 ∙ ap (λ xs. slice_range (pairs_of n) 0 i ++ xs) (sym p.2)
        ∙ ap (λ k. slice_range (pairs_of n) 0 k ++ run) (sym g.1 ∙ back_of_gap (Some n) back (subst IsSoundMap is o) g.0)
        ∙ ap (λ d. left_between d [] back ++ run) (sym is) ∙ ap (λ f. left_between m f back ++ run) (sym none)
