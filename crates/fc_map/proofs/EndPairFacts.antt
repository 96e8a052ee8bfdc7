-- The first and the last pair of a map, at their places.
use Rattle.std.proofs.Common.{◌≡◌, ℕ, zero, suc, ◌+◌, ◌<◌, ◌≤◌, ◌⊎◌, inl, inr, List, [], ◌∷◌, ◌++◌, length, Some, None, refl, sym, ap, subst, ◌∙◌, arith}
use Rattle.std.proofs.Common.{append-nil, length-append}
use Rattle.std.proofs.lemmas.Bool.{cases_lt}
use Rattle.std.proofs.lemmas.List.{nil_from_length}
use Rattle.fc_tree_node.specs.declared.node.Node.{Node}
use Rattle.fc_tree_node.specs.Node.{own_pairs, children_of, child_at, IsLevelled}
use Rattle.fc_tree_node.specs.Path.{IsPath, before_gap}
use Rattle.fc_tree_node.specs.Place.{before_child, after_child, IsPlace, before_pair, after_pair}
use Rattle.fc_tree_node.specs.TreePlace.{IsPlaceIn, pair_in, before_gap_in, before_pair_in, after_pair_in}
use Rattle.fc_tree_node.proofs.Gaps.{leaf_gap, after_none, place_pairs}
use Rattle.fc_tree_node.proofs.Pairs.{child_below, leaf_pairs}
use Rattle.fc_tree_search.proofs.WrittenPairs.{written_pairs}
use Rattle.fc_tree_cursor.specs.Gap.{IsGapIn}
use Rattle.fc_tree_cursor.proofs.GapFacts.{leaf_before_own}
use Rattle.fc_map.specs.Entries.{Map, entries, IsSoundMap}
use Rattle.fc_map.specs.Lends.{written_in}

module _ {K V Z : Type 0} where
  -- the gap of a leaf that no pair is before is the place of the pair after it
  first_place : (path : List ℕ) (h : ℕ) (n : Node K V Z) → 1 ≤ length (own_pairs n) → IsLevelled h n → length path ≡ h + 1 → IsPath path n
      → length (before_gap path n) ≡ 0 → IsPlace path n × (length (before_pair path n) ≡ 0)
  first_place [] h n some l e p z = absurd (omega arith)
  first_place (i ∷ []) (suc h) n some l e p z = absurd (omega arith)
  first_place (i ∷ j ∷ path) zero n some l e p z = absurd (omega arith)
  first_place (i ∷ []) zero n some l e p z = order (cases_lt i (length (own_pairs n)))
    where
      lead : length (before_child n i) ≡ 0
      lead = ap length (sym (append-nil (before_child n i))) ∙ z

      order : (i < length (own_pairs n)) ⊎ (length (own_pairs n) ≤ i) → IsPlace (i ∷ []) n × (length (before_pair (i ∷ []) n) ≡ 0)
      order (inl lt) = (lt, leaf_before_own n i l lt ∙ lead)
      order (inr ge) =
          let all = ap length (sym (leaf_pairs n l.1) ∙ leaf_gap n i l.1) ∙ length-append (before_child n i) (after_child n i) in
          let rest = ap length (after_none n i ge) in
          absurd (omega (arith, all, rest, lead))
  first_place (i ∷ j ∷ path) (suc h) n some l e p z =
      let c = child_at n i in
      let below = child_below h n i l p.0 in
      let both = sym (length-append (before_child n i) (before_gap (j ∷ path) c)) ∙ z in
      let rest = first_place (j ∷ path) h c (let k = below.0 in omega arith) below.1 (omega arith) p.1 (omega (arith, both)) in
      let all : length (children_of n) ≡ length (own_pairs n) + 1 = l.1 in
      ((omega arith, rest.0), length-append (before_child n i) (before_pair (j ∷ path) c) ∙ (let r = rest.1 in omega (arith, both, r)))

  pub first_at : (m : Map K V Z) (gap : List ℕ) → IsSoundMap m → IsGapIn m gap → length (before_gap_in m gap) ≡ 0 → 0 < length (entries m)
      → IsPlaceIn m gap × (length (before_pair_in m gap) ≡ 0)
  first_at None gap sound g z some = absurd (omega arith)
  first_at (Some root) gap sound g z some = let h = sound.0 in first_place gap h root sound.2.0 sound.2.1 (g.1 h sound.2.1) g.0 z

  module _ (m : Map K V Z) (path : List ℕ) where
    -- what a pair that no other is before is to a map's list, and what one is that no other is after
    abbrev IsFirst : Type 0
    IsFirst = (p : K × V) × (pair_in m path ≡ Some p) × (entries m ≡ p ∷ (before_pair_in m path ++ after_pair_in m path))
        × ((v : V) → entries (written_in m path v) ≡ (p.0, v) ∷ (before_pair_in m path ++ after_pair_in m path))

    abbrev IsLast : Type 0
    IsLast = (p : K × V) × (pair_in m path ≡ Some p) × (entries m ≡ (before_pair_in m path ++ after_pair_in m path) ++ p ∷ [])
        × ((v : V) → entries (written_in m path v) ≡ (before_pair_in m path ++ after_pair_in m path) ++ (p.0, v) ∷ [])

  pub first_is : (m : Map K V Z) (path : List ℕ) → IsSoundMap m → IsPlaceIn m path → length (before_pair_in m path) ≡ 0 → IsFirst m path
  first_is None path sound place z = absurd place
  first_is (Some root) path sound place z =
      let c = place_pairs path sound.0 root sound.2.1 place in
      let none = nil_from_length (before_pair path root) z in
      (c.pair, c.is, c.parts ∙ rw none refl, λ v. written_pairs path sound.0 root c.pair v sound.2.1 place c.is ∙ rw none refl)

  pub last_is : (m : Map K V Z) (path : List ℕ) → IsSoundMap m → IsPlaceIn m path → length (before_pair_in m path) + 1 ≡ length (entries m) → IsLast m path
  last_is None path sound place z = absurd place
  last_is (Some root) path sound place z =
      let c = place_pairs path sound.0 root sound.2.1 place in
      let all = ap length c.parts ∙ length-append (before_pair path root) (c.pair ∷ after_pair path root) in
      let none = nil_from_length (after_pair path root) (omega (arith, all, z)) in
      let left = sym (append-nil (before_pair path root)) in (
        c.pair,
        c.is,
        c.parts ∙ rw none (ap (λ s. s ++ c.pair ∷ []) left),
        λ v. written_pairs path sound.0 root c.pair v sound.2.1 place c.is
            ∙ rw none (ap (λ s. s ++ (c.pair.0, v) ∷ []) left),
      )

  -- The gap before all pairs leads to the first of them, where there is one.
  pub first_found : (m n : Map K V Z) (gap : List ℕ) (len : ℕ) → m ≡ n → IsSoundMap m → IsGapIn m gap → length (before_gap_in m gap) ≡ 0
      → len ≡ length (entries m) → (len ≡ 0 → ⊥) → IsPlaceIn n gap × IsFirst n gap
  first_found m n gap len is sound g z all some = subst (λ n. IsPlaceIn n gap × IsFirst n gap) is (go (length (entries m)) refl)
    where
      go : (k : ℕ) → length (entries m) ≡ k → IsPlaceIn m gap × IsFirst m gap
      go zero e = absurd (some (all ∙ e))
      go (suc k) e = let there = first_at m gap sound g z (omega (arith, e)) in (there.0, first_is m gap sound there.0 there.1)
