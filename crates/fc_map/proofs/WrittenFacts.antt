-- A map in which a value was written: it is the same but for its values, and its list.
use Rattle.std.proofs.Common.{◌≡◌, ℕ, List, [], ◌∷◌, ◌++◌, length, Some, None, refl, sym, ap, subst, ◌∙◌}
use Rattle.std.specs.declared.cmp.Ordering.{Ordering}
use Rattle.fc_base.specs.Ascending.{IsAscending}
use Rattle.fc_tree_node.specs.declared.node.Node.{Node}
use Rattle.fc_tree_node.specs.Node.{pairs_of}
use Rattle.fc_tree_node.specs.Place.{before_pair, after_pair}
use Rattle.fc_tree_node.specs.TreePlace.{IsPlaceIn, before_gap_in, before_pair_in}
use Rattle.fc_tree_node.proofs.Bare.{same_length, same_ascending, same_root, same_gap}
use Rattle.fc_tree_node.proofs.Gaps.{place_pairs}
use Rattle.fc_tree_search.specs.Written.{set_value, written}
use Rattle.fc_tree_search.proofs.WrittenPairs.{bare_written, written_pairs}
use Rattle.fc_tree_cursor.specs.Gap.{IsGapIn}
use Rattle.fc_map.specs.Entries.{Map, entries, IsSoundMap}
use Rattle.fc_map.specs.Lends.{written_in}

module _ {K V Z : Type 0} where
  -- The map's invariant holds whatever was written.
  pub written_kept : (m : Map K V Z) (root : Node K V Z) (path : List ℕ) (w : V) (cmp : K → K → Ordering) (len : ℕ) → m ≡ Some root
      → IsAscending cmp (entries m) × IsSoundMap m × (len ≡ length (entries m))
      → IsAscending cmp (pairs_of (written root path w)) × IsSoundMap (Some (written root path w)) × (len ≡ length (pairs_of (written root path w)))
  written_kept m root path w cmp len is kept =
      let k = subst (λ o. IsAscending cmp (entries o) × IsSoundMap o × (len ≡ length (entries o))) is kept in
      let new = written root path w in
      let same = bare_written path root w in
      (same_ascending root new same cmp k.0, same_root root new same k.1, k.2 ∙ sym (same_length root new same))

  -- A gap stays, after as many pairs.
  pub gap_stays : (m : Map K V Z) (path gap : List ℕ) (w : V) → IsGapIn m gap
      → IsGapIn (written_in m path w) gap × (length (before_gap_in (written_in m path w) gap) ≡ length (before_gap_in m gap))
  gap_stays None path gap w slot = (slot, refl)
  gap_stays (Some root) path gap w slot = same_gap root (written root path w) (bare_written path root w) gap slot

module _ {K V : Type 0} where
  set_at : (front back : List (K × V)) (p : K × V) (w : V) → front ++ (p.0, w) ∷ back ≡ set_value (front ++ p ∷ back) (length front) w
  set_at [] back p w = refl
  set_at (x ∷ front) back p w = ap (λ s. x ∷ s) (set_at front back p w)

  module _ {Z : Type 0} where
    pub entries_written : (m : Map K V Z) (path : List ℕ) (w : V) → IsSoundMap m → IsPlaceIn m path
        → entries (written_in m path w) ≡ set_value (entries m) (length (before_pair_in m path)) w
    entries_written None path w sound place = absurd place
    entries_written (Some root) path w sound place =
        let c = place_pairs path sound.0 root sound.2.1 place in
        written_pairs path sound.0 root c.pair w sound.2.1 place c.is ∙ set_at (before_pair path root) (after_pair path root) c.pair w
        ∙ ap (λ s. set_value s (length (before_pair path root)) w) (sym c.parts)
