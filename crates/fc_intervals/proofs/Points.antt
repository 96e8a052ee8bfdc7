-- Which stretch of a list covers a point.
use Rattle.std.proofs.Common.{◌≡◌, Bool, true, false, cond, List, [], ◌∷◌, ◌++◌, Option, Some, None, refl, sym, ap, ◌∙◌, subst}
use Rattle.std.specs.Prelude.{◌&&◌, map}
use Rattle.std.specs.List.{AllByRecursion, filter}
use Rattle.std.specs.Option.{option_map}
use Rattle.std.specs.Cmp.{IsTotalOrder}
use Rattle.std.specs.Ordering.{is_lt, is_le}
use Rattle.std.specs.declared.cmp.Ordering.{Ordering}
use Rattle.std.specs.declared.cmp.Ordering.TheVariants.{Less}
use Rattle.std.proofs.lemmas.Cmp.{tied_itself}
use Rattle.fc_base.specs.Ascending.{IsAscending}
use Rattle.fc_base.proofs.AscendingFacts.{all_map}
use Rattle.fc_laws.specs.Words.{last_item, not_above}
use Rattle.fc_intervals.specs.Steps.{ended}
use Rattle.fc_intervals.specs.Stretches.{AreApart, lies, stretch_at, value_at_point}
use Rattle.fc_intervals.specs.declared.stretch.Stretch.{Stretch}
use Rattle.fc_intervals.proofs.Lists.{EndsIn, and_false, and_left, all_kept, all_joined, all_at, all_over, all_pass, found_in, found_after, no_last}
use Rattle.fc_intervals.proofs.Lists.{not_found, ends_in}
use Rattle.fc_intervals.proofs.Order.{is_less, le_from_not_lt, not_lt_from_le, not_le_from_less, less_le, le_le}

module _ {K V : Type 0} (cmp : K → K → Ordering) where
  -- all of the stretches end at a point or before
  abbrev pub EndBy : K → List (K × Stretch K V) → Type 0
  EndBy a s = AllByRecursion (λ e. is_le (cmp e.1.end a) ≡ true) s

  -- all of them start at a point or after
  abbrev pub StartFrom : K → List (K × Stretch K V) → Type 0
  StartFrom a s = AllByRecursion (λ e. is_le (cmp a e.0) ≡ true) s

  pub apart_kept : (p : K × Stretch K V → Bool) (s : List (K × Stretch K V)) → AreApart cmp s → AreApart cmp (filter p s)
  apart_kept p [] a = tt
  apart_kept p (e ∷ s) a = elim (p e) as (λ b. AreApart cmp (cond b (e ∷ filter p s) (filter p s)))
      [ true ↦ (a.0, all_kept _ p s a.1, apart_kept p s a.2) | false ↦ apart_kept p s a.2 ]

  pub lead_ends : (s t : List (K × Stretch K V)) (y : K × Stretch K V) → AreApart cmp (s ++ y ∷ t) → EndBy y.0 s
  lead_ends [] t y a = tt
  lead_ends (e ∷ s) t y a = (all_at _ s t y a.1, lead_ends s t y a.2)

  pub apart_rest : (s t : List (K × Stretch K V)) → AreApart cmp (s ++ t) → AreApart cmp t
  apart_rest [] t a = a
  apart_rest (e ∷ s) t a = apart_rest s t a.2

  module _ (o : IsTotalOrder cmp) where
    pub apart_ascend : (s : List (K × Stretch K V)) → AreApart cmp s → IsAscending cmp s
    apart_ascend [] a = tt
    apart_ascend (e ∷ s) a = (all_map _ _ (λ x l. less_le o e.0 e.1.end x.0 a.0 l) s a.1, apart_ascend s a.2)

    pub apart_joined : (a : K) (s t : List (K × Stretch K V)) → AreApart cmp s → EndBy a s → AreApart cmp t → StartFrom a t → AreApart cmp (s ++ t)
    apart_joined a [] t h ends i starts = i
    apart_joined a (e ∷ s) t h ends i starts =
        (h.0, all_joined _ s t h.1 (all_map _ _ (λ x l. le_le o e.1.end a x.0 ends.0 l) t starts), apart_joined a s t h.2 ends.1 i starts)

    -- a point after all, and one before all
    pub ended_before : (a p : K) (s : List (K × Stretch K V)) → EndBy a s → is_le (cmp a p) ≡ true → stretch_at cmp s p ≡ None
    ended_before a p s ends l = not_found _ s (all_map _ _ (λ e h. ap (λ t. is_le (cmp e.0 p) && t) (not_lt_from_le o e.1.end p (le_le o e.1.end a p h l))
        ∙ and_false (is_le (cmp e.0 p))) s ends)

    pub yet_to_come : (a p : K) (s : List (K × Stretch K V)) → StartFrom a s → cmp p a ≡ Less → stretch_at cmp s p ≡ None
    yet_to_come a p s starts l = not_found _ s (all_map _ _ (λ e h. ap (λ t. t && is_lt (cmp p e.1.end)) (not_le_from_less o p e.0 (less_le o p a e.0 l h)))
        s starts)

    -- the one stretch that can cover a point is the last that starts there or before
    module _ (p : K) (s : List (K × Stretch K V)) (a : AreApart cmp s) where
      among : stretch_at cmp s p ≡ stretch_at cmp (not_above cmp s p) p
      among = sym (found_in (λ e. lies cmp e.0 e.1.end p) (λ e. is_le (cmp e.0 p)) (λ e h. and_left (is_le (cmp e.0 p)) (is_lt (cmp p e.1.end)) h) s)

      pub covered_none : last_item (not_above cmp s p) ≡ None → stretch_at cmp s p ≡ None
      covered_none e = among ∙ ap (λ t. stretch_at cmp t p) (no_last _ e)

      pub covered_by : (y : K × Stretch K V) → last_item (not_above cmp s p) ≡ Some y → stretch_at cmp s p ≡ cond (is_lt (cmp p y.1.end)) (Some y) None
      covered_by y e =
          let split : EndsIn (not_above cmp s p) y = ends_in (not_above cmp s p) y e in
          let parts : AreApart cmp (split.lead ++ y ∷ []) = subst (AreApart cmp) split.is (apart_kept _ s a) in
          let pass : AllByRecursion (λ x. is_le (cmp x.0 p) ≡ true) (split.lead ++ y ∷ []) =
          subst (AllByRecursion (λ x. is_le (cmp x.0 p) ≡ true)) split.is (all_pass (λ x. is_le (cmp x.0 p)) s) in
          let from : is_le (cmp y.0 p) ≡ true = all_at _ split.lead [] y pass in
          among ∙ ap (λ t. stretch_at cmp t p) split.is
          ∙ found_after _ split.lead (y ∷ []) (ended_before y.0 p split.lead (lead_ends split.lead [] y parts) from)
          ∙ ap (λ t. cond (t && is_lt (cmp p y.1.end)) (Some y) None) from

    -- stretches that end at a point at the latest
    module _ (a : K) where
      ends : (e : K × Stretch K V) → is_le (cmp (ended cmp a e).1.end a) ≡ true
      ends e = go (is_lt (cmp a e.1.end)) refl
        where
          go : (t : Bool) → is_lt (cmp a e.1.end) ≡ t → is_le (cmp (cond t a e.1.end) a) ≡ true
          go true h = ap is_le (tied_itself o a)
          go false h = le_from_not_lt o a e.1.end h

      ends_before : (e : K × Stretch K V) (k : K) → is_le (cmp e.1.end k) ≡ true → is_le (cmp (ended cmp a e).1.end k) ≡ true
      ends_before e k l = go (is_lt (cmp a e.1.end)) refl
        where
          go : (t : Bool) → is_lt (cmp a e.1.end) ≡ t → is_le (cmp (cond t a e.1.end) k) ≡ true
          go true h = ap is_le (less_le o a e.1.end k (is_less _ h) l)
          go false h = l

      whole : (e : K × Stretch K V) → cmp e.0 e.1.end ≡ Less → cmp e.0 a ≡ Less → cmp e.0 (ended cmp a e).1.end ≡ Less
      whole e w l = go (is_lt (cmp a e.1.end))
        where
          go : (t : Bool) → cmp e.0 (cond t a e.1.end) ≡ Less
          go true = l
          go false = w

      pub end_by_ended : (s : List (K × Stretch K V)) → EndBy a (map (ended cmp a) s)
      end_by_ended [] = tt
      end_by_ended (e ∷ s) = (ends e, end_by_ended s)

      pub apart_ended : (s : List (K × Stretch K V)) → AreApart cmp s → AllByRecursion (λ e. cmp e.0 a ≡ Less) s → AreApart cmp (map (ended cmp a) s)
      apart_ended [] h l = tt
      apart_ended (e ∷ s) h l =
          (whole e h.0 l.0, all_over _ (ended cmp a) s (all_map _ _ (λ x m. ends_before e x.0 m) s h.1), apart_ended s h.2 l.1)

      pub nothing_ended : (s : List (K × Stretch K V)) → EndBy a s → map (ended cmp a) s ≡ s
      nothing_ended [] h = refl
      nothing_ended (e ∷ s) h =
          ap (λ t. (e.0, let x : Stretch K V = record { end = cond t a e.1.end; value = e.1.value } in x) ∷ map (ended cmp a) s)
          (not_lt_from_le o e.1.end a h.0)
          ∙ ap (λ zs. e ∷ zs) (nothing_ended s h.1)

      pick : (b : Bool) (x y : K × Stretch K V) (r q : Option (K × Stretch K V)) → x.1.value ≡ y.1.value
          → option_map (λ (e : K × Stretch K V). e.1.value) r ≡ option_map (λ e. e.1.value) q
          → option_map (λ (e : K × Stretch K V). e.1.value) (cond b (Some x) r) ≡ option_map (λ e. e.1.value) (cond b (Some y) q)
      pick true x y r q v h = ap Some v
      pick false x y r q v h = h

      -- points before that one keep their values
      pub value_ended : (p : K) (s : List (K × Stretch K V)) → cmp p a ≡ Less → value_at_point cmp (map (ended cmp a) s) p ≡ value_at_point cmp s p
      value_ended p [] l = refl
      value_ended p (e ∷ s) l = ap (λ b. option_map (λ x. x.1.value) (cond b (Some (ended cmp a e)) (stretch_at cmp (map (ended cmp a) s) p)))
          (ap (λ t. is_le (cmp e.0 p) && t) (go (is_lt (cmp a e.1.end)) refl))
          ∙ pick (lies cmp e.0 e.1.end p) (ended cmp a e) e _ _ refl (value_ended p s l)
        where
          go : (t : Bool) → is_lt (cmp a e.1.end) ≡ t → is_lt (cmp p (cond t a e.1.end)) ≡ is_lt (cmp p e.1.end)
          go true h = ap is_lt l ∙ sym (ap is_lt (o.trans p a e.1.end l (is_less _ h)))
          go false h = refl
