-- Laws of `for_each`: what a closure that computes leaves of the list of a map.
use Rattle.std.proofs.Common.{◌≡◌, List, [], ◌∷◌, ◌++◌, length, map, drop, refl, sym, ap, subst, ◌∙◌, append-nil}
use Rattle.fc_tree_for_each.specs.Visits.{VisitsInTurn}
use Rattle.fc_map.specs.Stretches.{IsVisitedIn}
use Rattle.fc_map.specs.Writing.{Stretch, whole}

module _ {F K V : Type 0} (R : F → K × V → F → V → Type 0) (h : K × V → V) (calls : (f : F) (e : K × V) (f' : F) (w : V) → R f e f' w → w ≡ h e) where
  -- each call leaves what h gives
  pub visits_map : (xs ys : List (K × V)) (f g : F) → VisitsInTurn R f xs g ys → ys ≡ map (λ e. (e.0, h e)) xs
  visits_map [] ys f g v = v.1
  visits_map (e ∷ es) ys f g v = v.5 ∙ ap (λ w. (e.0, w) ∷ v.2) (calls f e v.0 v.1 v.3) ∙ ap (λ zs. (e.0, h e) ∷ zs) (visits_map es v.2 v.0 g v.4)

  none_left : (s : List (K × V)) → drop (length s) s ≡ []
  none_left [] = refl
  none_left (e ∷ s) = none_left s

  -- of a walk over all pairs
  pub visited_whole : (t : Stretch K V) (s ys : List (K × V)) (f : F) → t ≡ whole s → IsVisitedIn R f t ys → ys ≡ map (λ e. (e.0, h e)) s
  visited_whole t s ys f e v =
      let u = subst (λ x. IsVisitedIn R f x ys) e v in
      let w = u.1 in
      let d = none_left s in
      w.new_is ∙ ap (λ z. w.left ++ z) d ∙ append-nil w.left ∙ visits_map w.within w.left f u.0 w.visits
      ∙ ap (map (λ e. (e.0, h e))) (sym (w.old_is ∙ ap (λ z. w.within ++ z) d ∙ append-nil w.within))
