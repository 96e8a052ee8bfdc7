-- What a path to a gap of a leaf tells of the pairs on its either side.
use Rattle.std.proofs.Common.{◌≡◌, ℕ, List, [], ◌∷◌, ◌++◌, length, refl, sym, ap, subst, ◌∙◌, arith, Some, None}
use Rattle.fc_tree_node.specs.declared.node.Node.{Node}
use Rattle.fc_tree_node.specs.LeafGap.{IsLeafGap}
use Rattle.fc_tree_node.specs.Path.{before_gap}
use Rattle.fc_tree_node.specs.Tree.{Map, entries, IsSoundMap}
use Rattle.fc_tree_node.specs.TreePlace.{before_gap_in, after_gap_in}
use Rattle.fc_tree_node.proofs.Gaps.{gap_pairs}
use Rattle.fc_tree_cursor.specs.Gap.{GoesOn, IsGapIn}

-- One list, cut twice at the same place.
pub same_cut : {X : Type 0} (a b c d : List X) → a ++ b ≡ c ++ d → length a ≡ length c → (a ≡ c) × (b ≡ d)
same_cut [] b [] d e h = (refl, e)
same_cut [] b (y ∷ c) d e h = absurd (omega arith)
same_cut (x ∷ a) b [] d e h = absurd (omega arith)
same_cut (x ∷ a) b (y ∷ c) d e h =
    let f : a ++ b ≡ c ++ d = cc in
    let g : x ≡ y = cc in
    let r = same_cut a b c d f (omega arith) in
    (ap (λ z. z ∷ a) g ∙ ap (λ zs. y ∷ zs) r.0, r.1)

module _ {K V Z : Type 0} where
  -- A path that went on from nothing.
  pub from_nothing : (old new : List ℕ) (n : Node K V Z) (count : ℕ) → old ≡ [] → GoesOn old new n count → IsLeafGap new n × (length (before_gap new n) ≡ count)
  from_nothing old new n count e g =
      let s : new ≡ g.0 = g.1 ∙ ap (λ o. o ++ g.0) e in
      (subst (λ p. IsLeafGap p n) (sym s) g.2, ap (λ p. length (before_gap p n)) s ∙ g.3)

  -- A map's pairs are those before a gap, and those after it.
  pub gap_entries : (m : Map K V Z) (gap : List ℕ) → IsSoundMap m → IsGapIn m gap → entries m ≡ before_gap_in m gap ++ after_gap_in m gap
  gap_entries None gap o g = refl
  gap_entries (Some root) gap o g = gap_pairs gap o.0 root o.2.1 (g.1 o.0 o.2.1) g.0
