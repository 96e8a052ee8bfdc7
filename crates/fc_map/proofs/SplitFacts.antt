-- A map that is cut in two where a search of it ends.
use Rattle.std.proofs.Common.{◌≡◌, ◌<◌, ℕ, true, inl, inr, List, ◌∷◌, ◌++◌, length, Some, None, Result, Ok, Err, refl, sym, ap, ◌∙◌, subst, arith}
use Rattle.std.specs.Prelude.{OnOk, OnErr, IfOk, IfSome}
use Rattle.std.specs.List.{AllByRecursion}
use Rattle.std.specs.Ordering.{is_ge}
use Rattle.std.specs.declared.cmp.Ordering.{Ordering}
use Rattle.std.specs.declared.cmp.Ordering.TheVariants.{Equal}
use Rattle.std.proofs.lemmas.List.Elements.{filter-append}
use Rattle.fc_base.specs.Ascending.{IsAscending}
use Rattle.fc_base.specs.Halves.{not_below}
use Rattle.fc_base.specs.Parts.{below}
use Rattle.fc_base.proofs.AscendingFacts.{all_map, kept, left_out}
use Rattle.fc_base.proofs.Laws.{ascending_front, ascending_back}
use Rattle.fc_tree_split.specs.Cut.{IsCutPathIn, IsCutInTwo}
use Rattle.fc_tree_node.proofs.Gaps.{gap_pairs, place_pairs}
use Rattle.fc_tree_node.specs.Path.{before_gap, after_gap}
use Rattle.fc_tree_node.specs.Place.{before_pair, after_pair}
use Rattle.fc_tree_search.specs.Found.{AllBelow}
use Rattle.fc_tree_search.proofs.SearchFacts.{found_at, gap_at}
use Rattle.fc_map.specs.Entries.{Map, entries, IsSoundMap}
use Rattle.fc_map.specs.Place.{IsHeldAt, IsOpenAt}

module _ {K V : Type 0} (front back whole : List (K × V)) (e : front ++ back ≡ whole) where
  -- Both parts ascend where the whole does.
  pub parts_ascending : (cmp : K → K → Ordering) → IsAscending cmp whole → IsAscending cmp front × IsAscending cmp back
  parts_ascending cmp a = let b = subst (IsAscending cmp) (sym e) a in (ascending_front cmp front back b, ascending_back cmp front back b)

module _ {K Q V : Type 0} (cmp : K → Q → Ordering) (k : Q) where
  -- what is not below the query, where the front of the list is and the rest isn't
  after_is : (front back : List (K × V)) → AllBelow cmp k front → AllByRecursion (λ e. is_ge (cmp e.0 k) ≡ true) back → not_below cmp (front ++ back) k ≡ back
  after_is front back less rest = filter-append _ front back ∙ rw (left_out _ front (all_map _ _ (λ x h. ap is_ge h) front less), kept _ back rest) refl

  module _ {Z : Type 0} where
    -- Whatever a search found, a map of some pairs can be cut where it ended.
    pub cut_path : {A B : Type 0} (m : Map K V Z) (path : List ℕ) (r : Result A B) → 0 < length (entries m) → OnOk r (IsHeldAt cmp k m path)
        → OnErr r (IsOpenAt cmp k m path) → IsCutPathIn path m
    cut_path None path r some held gap = absurd (omega arith)
    cut_path (Some root) path (Ok x) some held gap = inl held.place
    cut_path (Some root) path (Err x) some held gap = inr (gap.way, gap.levels)

    -- The parts are then what is below the query, and what is not.
    pub cut_halves : {A B : Type 0} (m left right : Map K V Z) (path : List ℕ) (r : Result A B) → IsSoundMap m → 0 < length (entries m)
        → OnOk r (IsHeldAt cmp k m path) → OnErr r (IsOpenAt cmp k m path) → IsCutInTwo path m left right
        → (entries left ≡ below cmp (entries m) k) × (entries right ≡ not_below cmp (entries m) k)
    cut_halves None left right path r sound some held gap cut = absurd (omega arith)
    cut_halves (Some root) left right path (Ok x) sound some held gap cut =
        let a = found_at cmp k path sound.0 root sound.2.1 held in
        let c = place_pairs path sound.0 root sound.2.1 held.place in
        let equal : cmp c.pair.0 k ≡ Equal = subst (λ x. IfSome x (λ e. cmp e.0 k ≡ Equal)) c.is held.equal in
        let rest = after_is (before_pair path root) (c.pair ∷ after_pair path root) held.before
        (ap is_ge equal, all_map _ _ (λ x h. ap is_ge h) (after_pair path root) held.after) in
        (cut.left_of_pair c.pair c.is ∙ sym a.lower, cut.right_of_pair c.pair c.is ∙ sym (ap (λ s. not_below cmp s k) c.parts ∙ rest))
    cut_halves (Some root) left right path (Err x) sound some held gap cut =
        let a = gap_at cmp k path sound.0 root sound.2.1 gap in
        let whole = gap_pairs path sound.0 root sound.2.1 (gap.levels sound.0 sound.2.1) gap.way in
        let rest = after_is (before_gap path root) (after_gap path root) gap.front (all_map _ _ (λ x h. ap is_ge h) (after_gap path root) gap.back) in
        (cut.left_of_gap (gap.way, gap.levels) ∙ sym a.lower, cut.right_of_gap (gap.way, gap.levels) ∙ sym (ap (λ s. not_below cmp s k) whole ∙ rest))

    -- The same of an answer that may be an error.
    pub split_halves : {A B E : Type 0} (m left : Map K V Z) (path : List ℕ) (r : Result A B) (s : Result (Map K V Z) E) → IsSoundMap m → 0 < length (entries m)
        → OnOk r (IsHeldAt cmp k m path) → OnErr r (IsOpenAt cmp k m path) → IfOk s (IsCutInTwo path m left)
        → IfOk s (λ right. entries left ≡ below cmp (entries m) k) × IfOk s (λ right. entries right ≡ not_below cmp (entries m) k)
    split_halves m left path r (Ok right) sound some held gap cut = cut_halves m left right path r sound some held gap cut
    split_halves m left path r (Err e) sound some held gap cut = (tt, tt)
