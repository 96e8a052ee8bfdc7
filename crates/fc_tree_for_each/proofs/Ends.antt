-- What a walk over a map's tree is to its gaps, its keys and its list.
use Rattle.std.proofs.Common.{◌≡◌, ℕ, ◌-◌, List, [], length, take, drop, Option, Some, None, refl, sym, ap, subst, ◌∙◌}
use Rattle.std.proofs.Common.{arith}
use Rattle.std.proofs.lemmas.List.{length-append}
use Rattle.fc_tree_node.specs.declared.node.Node.{Node}
use Rattle.fc_tree_node.specs.Node.{pairs_of, IsLevelled}
use Rattle.fc_tree_node.specs.Path.{before_gap, after_gap}
use Rattle.fc_tree_node.specs.Tree.{entries, IsSoundMap}
use Rattle.fc_tree_node.specs.TreePlace.{before_gap_in}
use Rattle.fc_tree_node.proofs.Gaps.{gap_pairs}
use Rattle.fc_tree_cursor.specs.Gap.{IsGapIn, AreEndsIn}
use Rattle.fc_tree_cursor.specs.Ends.{AreInOrder, IsEnd}
use Rattle.fc_tree_cursor.proofs.PathEnds.{ends_of}
use Rattle.fc_tree_for_each.specs.Visits.{IsVisited, IsVisitedAt}
use Rattle.fc_tree_node.specs.Bare.{bare}
use Rattle.fc_tree_node.proofs.Bare.{bare_levels, bare_path, bare_gap, same_root, same_gap}
use Rattle.fc_tree_for_each.proofs.Turns.{at_lists}

module _ {K V Z : Type 0} where
  -- the ends of a map in its root
  pub record AreRootEnds (n : Node K V Z) (p q : List ℕ) : Type 0 where
    pub ends : (h : ℕ) × IsLevelled h (bare n) × IsEnd h p (bare n) × IsEnd h q (bare n)
    pub order : AreInOrder p q
    pub front : length (before_gap p (bare n)) ≡ length (before_gap p n)
    pub back : length (pairs_of (bare n)) - length (after_gap q (bare n)) ≡ length (before_gap q n)

  root_ends : (n : Node K V Z) (p q : List ℕ) → IsSoundMap (Some n) → AreEndsIn (Some n) p q → AreRootEnds n p q
  root_ends n p q s e =
      let h = s.0 in
      let l = s.2.1 in
      let b = bare_levels h n l in
      let cut = ap length (gap_pairs q h (bare n) b (e.1.1 h l) (bare_path q n e.1.0)) ∙ length-append (before_gap q (bare n)) (after_gap q (bare n)) in
      let g = bare_gap q n in
      let o = ends_of h n p q l e in
      record {
        ends = (h, b, (bare_path p n o.front_end.0, o.front_end.1), (bare_path q n o.back_end.0, o.back_end.1));
        order = o.order;
        front = bare_gap p n;
        back = omega arith;
      }

  pub map_ends : (m : Option (Node K V Z)) (n : Node K V Z) (front back p q : List ℕ) → m ≡ Some n → p ≡ front → q ≡ back → IsSoundMap m
      → AreEndsIn m front back → AreRootEnds n p q
  map_ends m n front back p q is i j s e = rw (i, j) (root_ends n front back (subst IsSoundMap is s) (subst (λ o. AreEndsIn o front back) is e))

  pub sound_stays : (m : Option (Node K V Z)) (n new : Node K V Z) → m ≡ Some n → bare new ≡ bare n → IsSoundMap m → IsSoundMap (Some new)
  sound_stays m n new is same sound = same_root n new same (subst IsSoundMap is sound)

  pub gaps_stay : (m : Option (Node K V Z)) (n new : Node K V Z) (path : List ℕ) → m ≡ Some n → bare new ≡ bare n → IsGapIn m path
      → IsGapIn (Some new) path × (length (before_gap path new) ≡ length (before_gap_in m path))
  gaps_stay m n new path is same gap =
      let s = same_gap n new same path (subst (λ o. IsGapIn o path) is gap) in
      (s.0, s.1 ∙ sym (ap (λ o. length (before_gap_in o path)) is))

module _ {F K V Z : Type 0} (R : F → K × V → F → V → Type 0) where
  pub visited_none : (f : F) (m : Option (Node K V Z)) (p q : List ℕ) → m ≡ None
      → IsVisited R f f (take (length (before_gap_in m p)) (entries m)) (drop (length (before_gap_in m q)) (entries m)) (entries m) (entries m)
  visited_none f m p q e = rw e (record { within = []; left = []; old_is = refl; new_is = refl; visits = (refl, refl) })

  pub visited_map : (m : Option (Node K V Z)) (n : Node K V Z) (new : List (K × V)) (front back p q : List ℕ) (f g : F) → m ≡ Some n → p ≡ front → q ≡ back
      → AreRootEnds n p q
      → IsVisitedAt R f g (length (before_gap p (bare n))) (length (pairs_of (bare n)) - length (after_gap q (bare n))) (pairs_of n) new
      → IsVisited R f g (take (length (before_gap_in m front)) (entries m)) (drop (length (before_gap_in m back)) (entries m)) (entries m) new
  visited_map m n new front back p q f g is i j r v = rw (is, sym i, sym j) (at_lists R f g _ _ (pairs_of n) new (rw (r.front, r.back) at v))
