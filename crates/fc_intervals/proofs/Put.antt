-- The list after a range was given a value, and a call on a range that is not refused.
use Rattle.std.proofs.Common.{◌≡◌, true, false, List, ◌∷◌, ◌++◌, Option, None, Result, Ok, Err, IsOk, IfErr, inl, inr, refl, sym, ap, ◌∙◌}
use Rattle.std.specs.Prelude.{unwrap_or}
use Rattle.std.specs.Option.{option_map}
use Rattle.std.specs.Cmp.{IsTotalOrder}
use Rattle.std.specs.declared.cmp.Ordering.{Ordering}
use Rattle.std.specs.declared.cmp.Ordering.TheVariants.{Less}
use Rattle.std.specs.declared.ops.Bound.TheVariants.{Excluded}
use Rattle.fc_base.specs.declared.try_reserve_error.TryReserveError.{TryReserveError}
use Rattle.fc_base.specs.Halves.{not_below}
use Rattle.fc_base.specs.OneKey.{put}
use Rattle.fc_base.specs.Parts.{below}
use Rattle.fc_laws.specs.Words.{last_item}
use Rattle.fc_map.specs.Ranged.{outside}
use Rattle.fc_intervals.specs.Put.{IsPut}
use Rattle.fc_intervals.specs.Refusals.{ends_after, goes_across, MayRefusePut, MayRefuseRest, starts_at}
use Rattle.fc_intervals.specs.Steps.{before, EndsBy, IsRest, starting}
use Rattle.fc_intervals.specs.Stretches.{AreApart}
use Rattle.fc_intervals.specs.declared.stretch.Stretch.{Stretch}
use Rattle.fc_intervals.proofs.Lengths.{at_parted}
use Rattle.fc_intervals.proofs.Parted.{parted_list}
use Rattle.fc_intervals.proofs.Written.{free_after, free_list, none_free}

module _ {K V : Type 0} (cmp : K → K → Ordering) (o : IsTotalOrder cmp) (s : List (K × Stretch K V)) (apart : AreApart cmp s)
    (same : V → V → Type 0) (a b : K) (range : cmp a b ≡ Less) where
  -- over what is free
  pub free_put : EndsBy cmp a (last_item (below cmp s b)) → (g : Stretch K V) → g.end ≡ b → (u : List (K × Stretch K V)) → u ≡ put cmp s a g
      → IsPut cmp same a b g.value s u
  free_put by g end u is =
      record {
        rest = None;
        is_rest = free_after cmp o s apart same a b range by;
        is = free_list cmp o s apart same a b range by g end u is
            ∙ ap (λ (m : Option (K × Stretch K V)).
            before cmp s a ++ (unwrap_or (option_map (λ e. e.0) m) a, record { end = b; value = g.value }) ∷ not_below cmp s b)
            (sym (none_free cmp o s apart same a b range by g));
      }

  -- over others, once what goes on after the range starts there
  pub across_put : (rest : Option (Stretch K V)) → IsRest cmp same s b rest → (v : V) → (t u : List (K × Stretch K V))
      → t ≡ below cmp s b ++ (starting b rest ++ not_below cmp s b)
      → (let given : Stretch K V = record { end = b; value = v } in
      u ≡ outside cmp (Excluded a) (Excluded b) (before cmp (put cmp t a given) a ++ not_below cmp (put cmp t a given) a))
      → IsPut cmp same a b v s u
  across_put rest is_rest v t u is e =
      record {
        rest = rest;
        is_rest = is_rest;
        is = parted_list cmp o s apart same b rest is_rest a range v t u is e
            ∙ ap (λ (m : Option (K × Stretch K V)). before cmp s a ++ (unwrap_or (option_map (λ x. x.0) m) a, record { end = b; value = v })
            ∷ (starting b rest ++ not_below cmp s b))
            (at_parted cmp o s apart same b rest is_rest t is a range);
      }

-- what may refuse a call does not, where no memory is needed
module _ {K V : Type 0} (cmp : K → K → Ordering) (may_refuse : V → TryReserveError → Type 0) (s : List (K × Stretch K V)) (b : K) where
  pub no_rest : (e : TryReserveError) → goes_across cmp s b ≡ false → ¬ (MayRefuseRest cmp may_refuse s b e)
  no_rest e none h = let no : true ≡ false = sym (ap (ends_after cmp b) h.1 ∙ h.2) ∙ none in absurd cc

  pub sure_rest : {X : Type 0} (r : Result X TryReserveError) → IfErr r (MayRefuseRest cmp may_refuse s b) → goes_across cmp s b ≡ false → IsOk r
  sure_rest (Ok x) h none = refl
  sure_rest (Err e) h none = absurd (no_rest e none h)

  pub sure_put : {X W : Type 0} (a : K) (r : Result X (W × TryReserveError)) → IfErr r (λ e. MayRefusePut cmp may_refuse s a b e.1)
      → starts_at cmp s a ≡ true → goes_across cmp s b ≡ false → IsOk r
  sure_put a (Ok x) h starts none = refl
  sure_put a (Err e) h starts none = absurd (elim h as (λ _. ⊥) [
    | inl rest ↦ no_rest e.1 none rest
    | inr new ↦ let no : true ≡ false = sym starts ∙ new.0 in cc
  ])
