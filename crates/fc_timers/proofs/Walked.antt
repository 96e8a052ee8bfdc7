-- A walk over the slots gives each timer of the list once.
use Rattle.std.proofs.Common.{◌≡◌, ℕ, ◌+◌, cond, List, [], ◌∷◌, ◌++◌, length, map, count_by, Option, Some, None, is_some, refl, sym, subst, arith}
use Rattle.std.specs.Cmp.{IsTotalOrder}
use Rattle.std.specs.List.Sorted.{IsPermutation}
use Rattle.std.specs.declared.cmp.Ordering.{Ordering}
use Rattle.std.proofs.lemmas.List.Sorted.{IsPermutation-cons, IsPermutation-map, IsPermutation-middle, IsPermutation-refl, IsPermutation-trans}
use Rattle.std.proofs.lemmas.List.Sums.{sum_by-cons}
use Rattle.fc_base.specs.Parts.{above, below}
use Rattle.fc_base.proofs.Laws.{cut_absent}
use Rattle.fc_timers.specs.declared.timer.Timer.{Timer}
use Rattle.fc_timers.specs.declared.timer.Armed.{Armed}
use Rattle.fc_timers.specs.InOrder.{listed}
use Rattle.fc_timers.specs.Timers.{by_time_then_turn as order, turnless}
use Rattle.fc_timers.specs.Walks.{standing}
use Rattle.fc_timers.proofs.Entries.{put_between}
use Rattle.fc_timers.proofs.OfQueue.{AreSlotsApart, each_listed, listed_ascends, none_at, order_total, rest_apart}

module _ {T V : Type 0} where
  pub standing_length : (k : ℕ) (h : List (Option (Armed T V))) → length (standing k h) ≡ count_by is_some h
  standing_length k [] = refl
  standing_length k (None ∷ h) =
      let counted = sum_by-cons (λ o. cond (is_some o) 1 0) None h in
      omega (arith, standing_length (k + 1) h, counted)
  standing_length k (Some a ∷ h) =
      let counted = sum_by-cons (λ o. cond (is_some o) 1 0) (Some a) h in
      omega (arith, standing_length (k + 1) h, counted)

module _ {T V : Type 0} {cmp : T → T → Ordering} (total : IsTotalOrder cmp) where
  pub walk_permutes : (k : ℕ) (h : List (Option (Armed T V))) → AreSlotsApart h → IsPermutation (map turnless (listed cmp k h)) (standing k h)
  walk_permutes k [] apart = IsPermutation-refl []
  walk_permutes k (None ∷ h) apart = walk_permutes (k + 1) h (rest_apart None h apart)
  walk_permutes k (Some a ∷ h) apart =
      let rest = listed cmp (k + 1) h in
      let later = rest_apart (Some a) h apart in
      let at_key : T × ℕ = (a.at, a.turn) in
      let e : (T × ℕ) × (Timer × V) = (at_key, (record { slot = k; number = a.number }, a.value)) in
      let none = none_at total k a h apart (each_listed total (k + 1) h later) in
      let front = below (order cmp) rest at_key in
      let back = above (order cmp) rest at_key in
      let joined : front ++ back ≡ rest = cut_absent (order cmp) rest at_key (order_total total) (listed_ascends total (k + 1) h) none in
      let first : IsPermutation (front ++ e ∷ back) (e ∷ rest) = subst (λ l. IsPermutation (front ++ e ∷ back) (e ∷ l)) joined
      (IsPermutation-middle front e back) in
      let moved : IsPermutation (listed cmp k (Some a ∷ h)) (e ∷ rest) =
      subst (λ l. IsPermutation l (e ∷ rest)) (sym (put_between cmp rest at_key e.1 none)) first in
      IsPermutation-trans _ _ _ (IsPermutation-map turnless _ _ moved) (IsPermutation-cons (turnless e) _ _ (walk_permutes (k + 1) h later))
