-- A pair that is put after all others of an ascending list.
use Rattle.std.proofs.Common.{◌≡◌, List, [], ◌∷◌, ◌++◌, Some, cond, length, inl, inr, refl, sym, ap, subst, ◌∙◌}
use Rattle.std.proofs.Common.{ℕ, ◌-◌, ◌^◌, ◌≤◌, ◌⊎◌}
use Rattle.std.specs.Bool.{if◌then◌else◌}
use Rattle.std.specs.Prelude.{None, unwrap_or}
use Rattle.std.specs.Option.{option_map}
use Rattle.std.specs.Cmp.{IsTotalOrder}
use Rattle.std.specs.List.{AllByRecursion}
use Rattle.std.specs.Ordering.{is_lt, is_eq, is_gt}
use Rattle.std.specs.declared.cmp.Ordering.{Ordering}
use Rattle.std.specs.declared.cmp.Ordering.TheVariants.{Less}
use Rattle.std.proofs.lemmas.Bool.{ne_eqb}
use Rattle.fc_base.specs.declared.try_reserve_error.TryReserveError.{TryReserveError}
use Rattle.fc_base.specs.declared.try_reserve_error.TryReserveError.TheVariants.{CapacityOverflow, AllocError}
use Rattle.fc_base.specs.Ascending.{IsAscending}
use Rattle.fc_base.specs.Growth.{MayGrowRefuse}
use Rattle.fc_base.specs.OneKey.{put}
use Rattle.fc_base.specs.Parts.{below, above, at}
use Rattle.fc_base.specs.Sizes.{capacity}
use Rattle.fc_base.proofs.AscendingFacts.{all_map, kept, left_out}
use Rattle.fc_base.proofs.Laws.{ascending_put}
use Rattle.fc_tree_node.proofs.Lists.{all_back}

module _ {K V : Type 0} (cmp : K → K → Ordering) where
  pub none_at : (s : List (K × V)) (k : K) → AllByRecursion (λ e. cmp e.0 k ≡ Less) s → at cmp s k ≡ None
  none_at [] k a = refl
  none_at (e ∷ s) k a = ap (λ o. cond (is_eq o) (Some e) (at cmp s k)) a.0 ∙ none_at s k a.1

  -- It is new, and its pair is put at the end.
  pub put_after : (s : List (K × V)) (k : K) (v : V) → AllByRecursion (λ e. cmp e.0 k ≡ Less) s → (put cmp s k v ≡ s ++ (k, v) ∷ []) × (at cmp s k ≡ None)
  put_after s k v a =
      let b : below cmp s k ≡ s = kept (λ e. is_lt (cmp e.0 k)) s (all_map _ _ (λ e l. ap is_lt l) s a) in
      let c : above cmp s k ≡ [] = left_out (λ e. is_gt (cmp e.0 k)) s (all_map _ _ (λ e l. ap is_gt l) s a) in
      let n = none_at s k a in (
        ap (λ l. l ++ (unwrap_or (option_map (λ e. e.0) (at cmp s k)) k, v) ∷ above cmp s k) b
            ∙ ap (λ l. s ++ (unwrap_or (option_map (λ e. e.0) (at cmp s k)) k, v) ∷ l) c
            ∙ ap (λ o. s ++ (unwrap_or (option_map (λ e. e.0) o) k, v) ∷ []) n,
        n,
      )

  -- A key that is greater than the last one is greater than all.
  pub after : (s front : List (K × V)) (last : K × V) (k : K) → IsTotalOrder cmp → s ≡ front ++ last ∷ [] → IsAscending cmp s → cmp last.0 k ≡ Less
      → AllByRecursion (λ e. cmp e.0 k ≡ Less) s
  after s front last k total e a less = subst (AllByRecursion (λ e. cmp e.0 k ≡ Less)) (sym e) (go front (subst (IsAscending cmp) e a))
    where
      go : (front : List (K × V)) → IsAscending cmp (front ++ last ∷ []) → AllByRecursion (λ e. cmp e.0 k ≡ Less) (front ++ last ∷ [])
      go [] a = (less, tt)
      go (x ∷ front) a = (total.trans x.0 last.0 k (all_back (λ y. cmp x.0 y.0 ≡ Less) front (last ∷ []) a.0).0 less, go front a.1)

  pub ascending_after : (s new : List (K × V)) (k : K) (v : V) → IsTotalOrder cmp → new ≡ s ++ (k, v) ∷ [] → AllByRecursion (λ e. cmp e.0 k ≡ Less) s
      → IsAscending cmp s → IsAscending cmp new
  ascending_after s new k v total e b a = subst (IsAscending cmp) ((put_after s k v b).0 ∙ sym e) (ascending_put cmp s k v total a)

-- A tree that may still be counted has no other error than that of memory.
pub push_refusal : {X : Type 0} (s : List X) (n : ℕ) (e : TryReserveError) → n ≡ length s → (n ≡ 2 ^ 64 - 1 → ⊥) → e ≡ AllocError
    → (s ≡ []) ⊎ (capacity ≤ length s) → MayGrowRefuse (length s) e
push_refusal s n e l few is full =
    let other = ne_eqb (length s) (2 ^ 64 - 1) (λ x. few (l ∙ x)) in
    (is ∙ sym (ap (λ b. if b then CapacityOverflow else AllocError) other), empty_or_full full)
  where
    empty_or_full : (s ≡ []) ⊎ (capacity ≤ length s) → (length s ≡ 0) ⊎ (capacity ≤ length s)
    empty_or_full (inl none) = inl (ap length none)
    empty_or_full (inr many) = inr many
