-- How long a list of stretches gets by a call on a range, and what refuses the call.
use Rattle.std.proofs.Common.{◌≡◌, ℕ, ◌+◌, ◌-◌, ◌^◌, ◌<◌, true, false, cond, List, ◌∷◌, ◌++◌, length, Option, Some, None}
use Rattle.std.proofs.Common.{refl, sym, ap, ◌∙◌, subst, add-zero, length-append, arith}
use Rattle.std.specs.Prelude.{is_some}
use Rattle.std.specs.Cmp.{IsTotalOrder}
use Rattle.std.specs.Ordering.{is_lt, is_eq}
use Rattle.std.specs.declared.cmp.Ordering.{Ordering}
use Rattle.std.specs.declared.cmp.Ordering.TheVariants.{Less}
use Rattle.fc_base.specs.declared.try_reserve_error.TryReserveError.{TryReserveError}
use Rattle.fc_base.specs.Growth.{MayGrowRefuse}
use Rattle.fc_base.specs.Halves.{not_below}
use Rattle.fc_base.specs.Parts.{at, below}
use Rattle.fc_base.specs.Viewed.{over_one}
use Rattle.fc_base.proofs.AscendingFacts.{all_map}
use Rattle.fc_laws.specs.Words.{last_item}
use Rattle.fc_intervals.specs.Refusals.{ends_after, MayRefuseAt, parted_length, put_length, starts_at}
use Rattle.fc_intervals.specs.Steps.{EndsBy, IsRest, starting}
use Rattle.fc_intervals.specs.Stretches.{AreApart}
use Rattle.fc_intervals.specs.declared.stretch.Stretch.{Stretch}
use Rattle.fc_intervals.proofs.Lists.{found_before, not_found}
use Rattle.fc_intervals.proofs.Order.{is_less, less_le}
use Rattle.fc_intervals.proofs.Parted.{none_starts}
use Rattle.fc_intervals.proofs.Points.{StartFrom}
use Rattle.fc_intervals.proofs.Written.{halves, rest_from, start_from}

-- where none is at a key, a list that is as long as can be has no room for one
pub full_new : {X : Type 0} (n : ℕ) (found : Option X) (P : Type 0) → n < 2 ^ 64 → (found ≡ None → n ≡ 2 ^ 64 - 1 → P)
    → 2 ^ 64 - 1 < n + cond (is_some found) 0 1 → P
full_new n None P fits full more = let most : n ≡ 2 ^ 64 - 1 = omega arith in full refl most
full_new n (Some x) P fits full more = absurd (omega arith)

module _ {K V : Type 0} (cmp : K → K → Ordering) (s : List (K × Stretch K V)) (b : K) where
  not_after : (l : Option (K × Stretch K V)) → EndsBy cmp b l → ends_after cmp b l ≡ false
  not_after None h = refl
  not_after (Some y) h = h

  kept_length : EndsBy cmp b (last_item (below cmp s b)) → parted_length cmp s b ≡ length s
  kept_length h = ap (λ g. length s + cond g 1 0) (not_after (last_item (below cmp s b)) h) ∙ add-zero (length s)

  more_length : (y : K × Stretch K V) → last_item (below cmp s b) ≡ Some y → is_lt (cmp b y.1.end) ≡ true → parted_length cmp s b ≡ length s + 1
  more_length y last on = ap (λ g. length s + cond g 1 0) (ap (ends_after cmp b) last ∙ on)

  -- where nothing goes on, the list stays as long as it is
  pub kept_fits : EndsBy cmp b (last_item (below cmp s b)) → length s < 2 ^ 64 → ¬ (2 ^ 64 - 1 < parted_length cmp s b)
  kept_fits h fits more = let less : 2 ^ 64 - 1 < length s = subst (λ n. 2 ^ 64 - 1 < n) (kept_length h) more in omega arith

module _ {K V : Type 0} (cmp : K → K → Ordering) (o : IsTotalOrder cmp) (s : List (K × Stretch K V)) (apart : AreApart cmp s)
    (same : V → V → Type 0) (b : K) where
  -- where something does, it is one more
  pub rest_more : (P : Type 0) (r : Stretch K V) → IsRest cmp same s b (Some r) → (2 ^ 64 - 1 < length s + cond (starts_at cmp s b) 0 1 → P)
      → 2 ^ 64 - 1 < parted_length cmp s b → P
  rest_more P r h full more = full (subst (λ n. 2 ^ 64 - 1 < n) (more_length cmp s b h.0 h.1 h.2
      ∙ ap (λ q. length s + cond (is_some q) 0 1) (sym (none_starts cmp o s apart same b h.0 r h.1 (is_less _ h.2)))) more)

  -- the list in which what goes on after a point starts there too
  module _ (rest : Option (Stretch K V)) (is_rest : IsRest cmp same s b rest) (t : List (K × Stretch K V))
      (is : t ≡ below cmp s b ++ (starting b rest ++ not_below cmp s b)) where
    length_of : (q : Option (Stretch K V)) → IsRest cmp same s b q → length (below cmp s b ++ (starting b q ++ not_below cmp s b)) ≡ parted_length cmp s b
    length_of None h = ap length (halves cmp o s apart b) ∙ sym (kept_length cmp s b h)
    length_of (Some r) h = omega (
      arith,
      ap length (halves cmp o s apart b),
      length-append (below cmp s b) ((b, r) ∷ not_below cmp s b),
      length-append (below cmp s b) (not_below cmp s b),
      more_length cmp s b h.0 h.1 h.2,
    )

    length_parted : length t ≡ parted_length cmp s b
    length_parted = ap length is ∙ length_of rest is_rest

    module _ (a : K) (range : cmp a b ≡ Less) where
      at_front : (back : List (K × Stretch K V)) → StartFrom cmp b back → at cmp (below cmp s b ++ back) a ≡ at cmp (below cmp s b) a
      at_front back from = found_before _ (below cmp s b) back
          (not_found _ back (all_map _ _ (λ e h. ap is_eq (over_one cmp o a e.0 (less_le o a b e.0 range h))) back from))

      pub at_parted : at cmp t a ≡ at cmp s a
      at_parted =
          ap (λ l. at cmp l a) is ∙ at_front (starting b rest ++ not_below cmp s b) (rest_from cmp o s apart same b rest)
          ∙ sym (at_front (not_below cmp s b) (start_from cmp o s apart b)) ∙ ap (λ l. at cmp l a) (halves cmp o s apart b)

      starts_parted : starts_at cmp t a ≡ starts_at cmp s a
      starts_parted = ap is_some at_parted

      -- what refuses a stretch that is put before it
      pub refused_before : (e : TryReserveError) → MayRefuseAt cmp t a (length t) e → MayRefuseAt cmp s a (parted_length cmp s b) e
      refused_before e h =
          (sym starts_parted ∙ h.0, subst (λ n. n < 2 ^ 64) length_parted h.1, subst (λ n. MayGrowRefuse n e) length_parted h.2)

      pub full_before : (P : Type 0) → (2 ^ 64 - 1 < length t + cond (starts_at cmp t a) 0 1 → P) → 2 ^ 64 - 1 < put_length cmp s a b → P
      full_before P full more = full (subst (λ n. 2 ^ 64 - 1 < n) (sym (ap (λ n. n + cond (starts_at cmp t a) 0 1) length_parted
          ∙ ap (λ g. parted_length cmp s b + cond g 0 1) starts_parted)) more)
