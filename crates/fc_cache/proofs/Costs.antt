-- What entries cost, and which are found, once some are moved, taken out and evicted.
use Rattle.std.proofs.Common.{◌≡◌, ℕ, ◌+◌, ◌-◌, ◌≤◌, Bool, true, false, cond, List, [], ◌∷◌, ◌++◌, Option, None, Some}
use Rattle.std.proofs.Common.{option_map, refl, sym, ap, ◌∙◌, leb, arith}
use Rattle.std.proofs.lemmas.Bool.{le-leb}
use Rattle.std.proofs.lemmas.List.{map-append}
use Rattle.std.proofs.lemmas.List.Sums.{sum_by-append, sum_by-cons}
use Rattle.std.proofs.lemmas.Map.Entries.{sum_by-remove_entry}
use Rattle.std.proofs.lemmas.Option.{none-some}
use Rattle.std.specs.List.{sum_by}
use Rattle.std.specs.Map.{values_of, lookup, lookup_entry, remove_entry}
use Rattle.std.specs.Option.{option_map_or, option_to_list, unwrap_or}
use Rattle.lru.proofs.Pairs.{lookup-lookup_entry}
use Rattle.fc_cache.specs.declared.held.Held.{Held}
use Rattle.fc_cache.specs.Entries.{total_cost, evicted_within, rest_within, used_last}
use Rattle.fc_cache.proofs.Reversed.{left_missed}

module _ {K V : Type 0} where
  abbrev pub held_of : K × Held V → Held V
  held_of e = e.1

  pub total_append : (xs ys : List (K × Held V)) → total_cost (xs ++ ys) ≡ total_cost xs + total_cost ys
  total_append xs ys = ap (sum_by (λ h. h.cost)) (map-append held_of xs ys) ∙ sum_by-append (λ h. h.cost) (values_of xs) (values_of ys)

  pub total_cons : (e : K × Held V) (es : List (K × Held V)) → total_cost (e ∷ es) ≡ e.1.cost + total_cost es
  total_cons e es = sum_by-cons (λ h. h.cost) e.1 (values_of es)

  pub total_push : (es : List (K × Held V)) (e : K × Held V) → total_cost (es ++ e ∷ []) ≡ total_cost es + e.1.cost
  total_push es e = total_append es (e ∷ []) ∙ (let one = total_cons e [] in omega arith)

  replaced_cost : (k : K) (o : Option (Held V))
      → option_map_or (λ e. e.1.cost) (option_map {T = Held V} {U = K × Held V} (λ h. (k, h)) o) 0 ≡ unwrap_or (option_map (λ h. h.cost) o) 0
  replaced_cost k None = refl
  replaced_cost k (Some h) = refl

  module _ (test : K → Bool) (es : List (K × Held V)) where
    -- Once what was replaced is taken off, the sum is that of the others.
    pub without_replaced : (k : K) (r : Option (K × Held V)) (cost used : ℕ) → r ≡ option_map (λ h. (k, h)) (lookup test es)
        → cost ≡ option_map_or (λ e. e.1.cost) r 0 → used ≡ total_cost es → (cost ≤ used) × (used - cost ≡ total_cost (remove_entry test es))
    without_replaced k r cost used is costs sum =
        let off = costs ∙ ap (λ o. option_map_or (λ e. e.1.cost) o 0) is ∙ replaced_cost k (lookup test es) in
        let all = sum_by-remove_entry (λ h. h.cost) test es in
        (omega arith, omega arith)

    pub cost_taken : (e : K × Held V) → lookup_entry test es ≡ Some e → total_cost (remove_entry test es) + e.1.cost ≡ total_cost es
    cost_taken e found =
        ap (λ o. total_cost (remove_entry test es) + unwrap_or (option_map (λ h. h.cost) o) 0)
        (ap (option_map held_of) (sym found) ∙ lookup-lookup_entry test es)
        ∙ sum_by-remove_entry (λ h. h.cost) test es

    pub cost_missed : lookup_entry test es ≡ None → total_cost (remove_entry test es) ≡ total_cost es
    cost_missed none = ap total_cost (left_missed test es none)

    cost_at : (o : Option (K × Held V)) → lookup_entry test es ≡ o → total_cost (remove_entry test es ++ option_to_list o) ≡ total_cost es
    cost_at None none = total_append (remove_entry test es) [] ∙ (let same = cost_missed none in omega arith)
    cost_at (Some e) found = total_push (remove_entry test es) e ∙ cost_taken e found

    -- A use changes no cost.
    pub cost_used : total_cost (used_last test es) ≡ total_cost es
    cost_used = cost_at (lookup_entry test es) refl

  -- A limit that is kept evicts nothing, and what is not there is not there once entries are evicted.
  pub rest_enough : (limit : ℕ) (es : List (K × Held V)) → total_cost es ≤ limit → rest_within limit es ≡ es
  rest_enough limit [] h = refl
  rest_enough limit (e ∷ es) h = ap (λ b. cond b (e ∷ es) (rest_within limit es)) (le-leb (total_cost (e ∷ es)) limit h)

  pub none_evicted : (limit : ℕ) (es : List (K × Held V)) → total_cost es ≤ limit → evicted_within limit es ≡ []
  none_evicted limit [] h = refl
  none_evicted limit (e ∷ es) h = ap (λ b. cond b [] (e ∷ evicted_within limit es)) (le-leb (total_cost (e ∷ es)) limit h)

  pub rest_missed : (limit : ℕ) (test : K → Bool) (es : List (K × Held V)) → lookup_entry test es ≡ None → lookup_entry test (rest_within limit es) ≡ None
  rest_missed limit test [] none = refl
  rest_missed limit test (e ∷ es) none =
      let after : lookup_entry test es ≡ None = (elim (test e.0) as (λ b. cond b (Some e) (lookup_entry test es) ≡ None → lookup_entry test es ≡ None) [
        | true ↦ λ h. absurd (none-some e (sym h))
        | false ↦ λ h. h
      ]) none in
      elim (leb (total_cost (e ∷ es)) limit) as (λ b. lookup_entry test (cond b (e ∷ es) (rest_within limit es)) ≡ None) [
        | true ↦ none
        | false ↦ rest_missed limit test es after
      ]
