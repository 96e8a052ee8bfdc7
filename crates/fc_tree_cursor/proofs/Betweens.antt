-- What lies between two gaps of a map, when one of them goes on.
use Rattle.std.proofs.Common.{◌≡◌, ℕ, ◌+◌, ◌-◌, ◌<◌, ◌≤◌, List, [], ◌∷◌, ◌++◌, length, take, drop, Some, slice_get, sym, ap, ◌∙◌, arith, length-append, ◌⊎◌}
use Rattle.std.proofs.Common.{inl, inr}
use Rattle.std.specs.Prelude.{slice_range}
use Rattle.std.proofs.lemmas.Bool.{cases_lt}
use Rattle.fc_tree_node.specs.Tree.{Map, entries, IsSoundMap}
use Rattle.fc_tree_node.specs.TreePlace.{before_gap_in, after_gap_in}
use Rattle.fc_tree_cursor.specs.Gap.{IsGapIn, AreEndsIn}
use Rattle.fc_tree_cursor.specs.Span.{between}
use Rattle.fc_tree_cursor.proofs.Bounds.{gap_entries}
use Rattle.fc_tree_cursor.proofs.Slices.{slice_split, slice_one}

module _ {K V Z : Type 0} (m : Map K V Z) (sound : IsSoundMap m) where
  -- No more pairs are before a gap than there are.
  pub gap_fits : (gap : List ℕ) → IsGapIn m gap → length (before_gap_in m gap) ≤ length (entries m)
  gap_fits gap g = let e = ap length (gap_entries m gap sound g) ∙ length-append (before_gap_in m gap) (after_gap_in m gap) in omega arith

  -- Something is between two gaps only where more is before the second.
  pub some_between : (front back : List ℕ) → 0 < length (between m front back) → length (before_gap_in m front) < length (before_gap_in m back)
  some_between front back some = order (cases_lt (length (before_gap_in m front)) (length (before_gap_in m back)))
    where
      order : (length (before_gap_in m front) < length (before_gap_in m back)) ⊎ (length (before_gap_in m back) ≤ length (before_gap_in m front))
          → length (before_gap_in m front) < length (before_gap_in m back)
      order (inl lt) = lt
      order (inr le) =
          let none : length (before_gap_in m back) - length (before_gap_in m front) ≡ 0 = omega arith in
          let empty = ap length (ap (λ k. take k (drop (length (before_gap_in m front)) (entries m))) none) in
          absurd (omega (arith, some, empty))

  module _ (front back : List ℕ) (ends : AreEndsIn m front back) (some : 0 < length (between m front back)) where
    -- The front goes on over a pair.
    pub next_between : (mid : List ℕ) (x : K × V) → IsGapIn m mid → length (before_gap_in m mid) ≡ length (before_gap_in m front) + 1
        → slice_get (entries m) (length (before_gap_in m front)) ≡ Some x → AreEndsIn m mid back × (between m front back ≡ x ∷ between m mid back)
    next_between mid x g step at =
        let lt = some_between front back some in (
          (g, ends.1, omega arith),
          slice_split (entries m) _ (length (before_gap_in m front) + 1) _ (omega arith) (omega arith)
              ∙ ap (λ xs. xs ++ slice_range (entries m) (length (before_gap_in m front) + 1) (length (before_gap_in m back))) (slice_one (entries m) _ x at)
              ∙ ap (λ k. x ∷ slice_range (entries m) k (length (before_gap_in m back))) (sym step),
        )

    -- The back goes back over a pair.
    pub previous_between : (mid : List ℕ) (x : K × V) → IsGapIn m mid → length (before_gap_in m mid) + 1 ≡ length (before_gap_in m back)
        → slice_get (entries m) (length (before_gap_in m mid)) ≡ Some x → AreEndsIn m front mid × (between m front back ≡ between m front mid ++ x ∷ [])
    previous_between mid x g step at =
        let lt = some_between front back some in (
          (ends.0, g, omega arith),
          slice_split (entries m) _ (length (before_gap_in m mid)) _ (omega arith) (omega arith)
              ∙ ap (λ k. between m front mid ++ slice_range (entries m) (length (before_gap_in m mid)) k) (sym step)
              ∙ ap (λ xs. between m front mid ++ xs) (slice_one (entries m) _ x at),
        )
