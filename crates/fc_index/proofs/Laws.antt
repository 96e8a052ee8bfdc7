-- The laws of walks by a second key, and of a row that keeps its keys, for callers of a table.
use Rattle.std.proofs.Common.{◌≡◌, Bool, true, false, cond, List, [], ◌∷◌, Option, None, Some, refl, sym, ◌∙◌}
use Rattle.std.specs.Prelude.{◌&&◌, is_some}
use Rattle.std.specs.List.{AllByRecursion}
use Rattle.std.specs.Cmp.{IsTotalOrder}
use Rattle.std.specs.Ordering.{is_eq}
use Rattle.std.specs.declared.cmp.Ordering.{Ordering}
use Rattle.std.proofs.lemmas.Cmp.{tied_itself}
use Rattle.fc_base.specs.Parts.{value_at}
use Rattle.fc_base.proofs.AscendingFacts.{all_map}
use Rattle.fc_set.specs.Items.{item_at}
use Rattle.fc_index.specs.Rows.{key_then_id, has_both, has_key, AreByKey}
use Rattle.fc_index.specs.declared.keyed.Keyed.{Keyed}
use Rattle.fc_index.proofs.Listed.{key_order_total}

both_true : (a b : Bool) → (a && b) ≡ true → (a ≡ true) × (b ≡ true)
both_true true true e = (refl, refl)
both_true true false e = absurd cc
both_true false b e = absurd cc

-- each item of a list is found in it
module _ {T : Type 0} (cmp : T → T → Ordering) (total : IsTotalOrder cmp) where
  later : (x : T) (b : Bool) (o : Option T) → is_some o ≡ true → is_some (cond b (Some x) o) ≡ true
  later x true o e = refl
  later x false o e = e

  each_found : (s : List T) → AllByRecursion (λ x. is_some (item_at cmp s x) ≡ true) s
  each_found [] = tt
  each_found (x ∷ s) = (rw (tied_itself total x) refl, all_map _ _ (λ y e. later x (is_eq (cmp x y)) (item_at cmp s y) e) s (each_found s))

module _ {K I R : Type 0} (cmp : K → K → Ordering) (ids : I → I → Ordering) (key : R → K) (total : IsTotalOrder cmp) (totals : IsTotalOrder ids)
    (chosen : K → Bool) (rows : List (I × R)) (walk : List (K × I)) (by_key : AreByKey cmp ids key chosen rows walk) where
  -- Each item of the walk has a key that is chosen, and is of the row at its id.
  pub each_by_key : AllByRecursion (λ x. (chosen x.0 ≡ true) × (has_key cmp key (value_at ids rows x.1) x.0 ≡ true)) walk
  each_by_key = all_map _ _ (λ x found. both_true (chosen x.0) _ (sym (by_key.exact x.0 x.1) ∙ found)) walk
      (each_found (key_then_id cmp ids) (key_order_total cmp ids total totals) walk)

  has_row : (o : Option R) (k : K) → has_key cmp key o k ≡ true → is_some o ≡ true
  has_row None k e = absurd cc
  has_row (Some r) k e = refl

  -- At the id of each item of the walk is a row.
  pub each_there : AllByRecursion (λ x. is_some (value_at ids rows x.1) ≡ true) walk
  each_there = all_map _ _ (λ x both. has_row (value_at ids rows x.1) x.0 both.1) walk each_by_key

  -- Each row whose key is chosen has an item in the walk.
  pub all_by_key : (i : I) (r : R) → value_at ids rows i ≡ Some r → chosen (key r) ≡ true → is_some (item_at (key_then_id cmp ids) walk (key r, i)) ≡ true
  all_by_key i r there is_chosen = by_key.exact (key r) i ∙ rw (is_chosen, there, tied_itself total (key r)) refl

-- A row at an id has both its keys there: so another value in its place is never refused.
pub keys_kept : {I A B V : Type 0} (firsts : A → A → Ordering) (seconds : B → B → Ordering) (ids : I → I → Ordering) → IsTotalOrder firsts
    → IsTotalOrder seconds → (rows : List (I × Keyed A B V)) (i : I) (r : Keyed A B V) → value_at ids rows i ≡ Some r
    → has_both firsts seconds (value_at ids rows i) r.first r.second ≡ true
keys_kept firsts seconds ids total totals rows i r there = rw (there, tied_itself total r.first, tied_itself totals r.second) refl
