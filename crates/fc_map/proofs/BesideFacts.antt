-- What a pair next to a key is to a map's list.
use Rattle.std.proofs.Common.{◌≡◌, ℕ, ◌+◌, cond, List, [], ◌∷◌, ◌++◌, length, Some, None}
use Rattle.std.proofs.Common.{append_assoc, length-append, refl, sym, ap, ◌∙◌, arith}
use Rattle.std.specs.List.{AllByRecursion}
use Rattle.std.specs.Ordering.{is_le, is_gt}
use Rattle.std.specs.declared.cmp.Ordering.{Ordering}
use Rattle.std.specs.declared.cmp.Ordering.TheVariants.{Less, Equal, Greater}
use Rattle.std.proofs.lemmas.List.{nil_from_length}
use Rattle.fc_base.specs.Ascending.{IsAscending}
use Rattle.fc_base.specs.Parts.{above}
use Rattle.fc_base.specs.Query.{IsQueryOrder}
use Rattle.fc_base.proofs.AscendingFacts.{all_map, kept, left_out}
use Rattle.fc_tree_node.specs.Place.{before_pair, after_pair}
use Rattle.fc_tree_node.specs.TreePlace.{IsPlaceIn, pair_in, before_pair_in, after_pair_in}
use Rattle.fc_tree_node.proofs.Gaps.{place_pairs}
use Rattle.fc_tree_search.specs.Neighbours.{not_above}
use Rattle.fc_tree_search.proofs.WrittenPairs.{written_pairs}
use Rattle.fc_tree_cursor.proofs.Bounds.{same_cut}
use Rattle.fc_map.specs.Entries.{Map, entries, IsSoundMap}
use Rattle.fc_map.specs.Lends.{written_in}

-- An ascending list is what is not above a query, and what is.
module _ {K Q V : Type 0} (cmp : K → K → Ordering) (order : K → Q → Ordering) where
  pub sides_joined : (s : List (K × V)) (q : Q) → IsQueryOrder cmp order → IsAscending cmp s → not_above order s q ++ above order s q ≡ s
  sides_joined [] q fits a = refl
  sides_joined (e ∷ s) q fits a = go (order e.0 q) refl (sides_joined s q fits a.1)
    where
      none : AllByRecursion (λ x. order x.0 q ≡ Greater) s → (not_above order s q ≡ []) × (above order s q ≡ s)
      none g = (left_out _ s (all_map _ _ (λ x h. ap is_le h) s g), kept _ s (all_map _ _ (λ x h. ap is_gt h) s g))

      go : (r : Ordering) → order e.0 q ≡ r → not_above order s q ++ above order s q ≡ s
          → cond (is_le r) (e ∷ not_above order s q) (not_above order s q) ++ cond (is_gt r) (e ∷ above order s q) (above order s q) ≡ e ∷ s
      go Less h i = ap (λ zs. e ∷ zs) i
      go Equal h i = ap (λ zs. e ∷ zs) i
      go Greater h i = let n = none (all_map _ _ (λ x l. fits.upper q e.0 x.0 l h) s a.0) in rw (n.0, n.1) refl

-- Of two parts of a list, one is all or none of it.
module _ {X : Type 0} where
  pub none_after : (before after s : List X) → before ++ after ≡ s → length before ≡ length s → after ≡ []
  none_after before after s parts e =
      let all = sym (ap length parts) ∙ length-append before after in
      nil_from_length after (omega (arith, all, e))

-- A pair at the seam of two parts of a map's list.
module _ {K V Z : Type 0} (m : Map K V Z) (path : List ℕ) (before after : List (K × V)) where
  abbrev around : List (K × V)
  around = before_pair_in m path ++ after_pair_in m path

  abbrev IsFirst : Type 0
  IsFirst = (p : K × V) × (rest : List (K × V)) × (pair_in m path ≡ Some p) × (after ≡ p ∷ rest) × (around ≡ before ++ rest)
      × ((v : V) → entries (written_in m path v) ≡ before ++ (p.0, v) ∷ rest)

  abbrev IsLast : Type 0
  IsLast = (p : K × V) × (lead : List (K × V)) × (pair_in m path ≡ Some p) × (before ≡ lead ++ p ∷ []) × (around ≡ lead ++ after)
      × ((v : V) → entries (written_in m path v) ≡ lead ++ (p.0, v) ∷ after)

module _ {K V Z : Type 0} where
  pub first_after : (m : Map K V Z) (path : List ℕ) (before after : List (K × V)) → IsSoundMap m → before ++ after ≡ entries m
      → IsPlaceIn m path × (length (before_pair_in m path) ≡ length before) → IsFirst m path before after
  first_after None path before after sound parts at = absurd at.0
  first_after (Some root) path before after sound parts at =
      let c = place_pairs path sound.0 root sound.2.1 at.0 in
      let rest = after_pair path root in
      let s = same_cut (before_pair path root) (c.pair ∷ rest) before after (sym (parts ∙ c.parts)) at.1 in (
        c.pair,
        rest,
        c.is,
        sym s.1,
        ap (λ z. z ++ rest) s.0,
        λ v. written_pairs path sound.0 root c.pair v sound.2.1 at.0 c.is ∙ ap (λ z. z ++ (c.pair.0, v) ∷ rest) s.0,
      )

  pub last_before : (m : Map K V Z) (path : List ℕ) (before after : List (K × V)) → IsSoundMap m → before ++ after ≡ entries m
      → IsPlaceIn m path × (length (before_pair_in m path) + 1 ≡ length before) → IsLast m path before after
  last_before None path before after sound parts at = absurd at.0
  last_before (Some root) path before after sound parts at =
      let c = place_pairs path sound.0 root sound.2.1 at.0 in
      let lead = before_pair path root in
      let whole : (lead ++ c.pair ∷ []) ++ after_pair path root ≡ before ++ after = append_assoc lead (c.pair ∷ []) (after_pair path root)
      ∙ sym (parts ∙ c.parts) in
      let s = same_cut (lead ++ c.pair ∷ []) (after_pair path root) before after whole (length-append lead (c.pair ∷ []) ∙ at.1) in (
        c.pair,
        lead,
        c.is,
        sym s.0,
        ap (λ z. lead ++ z) s.1,
        λ v. written_pairs path sound.0 root c.pair v sound.2.1 at.0 c.is ∙ ap (λ z. lead ++ (c.pair.0, v) ∷ z) s.1,
      )
