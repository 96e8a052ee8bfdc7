-- A stretch whose value was set.
use Rattle.std.proofs.Common.{◌≡◌, Bool, true, false, cond, List, [], ◌∷◌, ◌++◌, Option, Some, None, refl, sym, ap, ◌∙◌, subst}
use Rattle.std.specs.Prelude.{unwrap_or}
use Rattle.std.specs.List.{AllByRecursion}
use Rattle.std.specs.Option.{option_map}
use Rattle.std.specs.Cmp.{IsTotalOrder}
use Rattle.std.specs.Ordering.{is_le}
use Rattle.std.specs.declared.cmp.Ordering.{Ordering}
use Rattle.fc_base.specs.Ascending.{IsAscending}
use Rattle.fc_base.specs.OneKey.{cut, put}
use Rattle.fc_base.specs.Parts.{at, above, below, value_at}
use Rattle.fc_base.specs.Viewed.{over_one}
use Rattle.fc_base.proofs.AscendingFacts.{all_map}
use Rattle.fc_base.proofs.Laws.{ascending_back, at_cut, cut_between, smaller_before}
use Rattle.fc_laws.proofs.NeighbourLaws.{above_cut, below_cut}
use Rattle.fc_intervals.specs.Stretches.{AreApart, lies, stretch_at, value_at_point}
use Rattle.fc_intervals.specs.ValueSet.{IsValueSet}
use Rattle.fc_intervals.specs.declared.stretch.Stretch.{Stretch}
use Rattle.fc_intervals.proofs.Lists.{and_left, found_after, one_value}
use Rattle.fc_intervals.proofs.Points.{apart_ascend, ended_before, lead_ends}
use Rattle.fc_intervals.proofs.Taken.{found_between, stands_there}
use Rattle.fc_intervals.proofs.Written.{put_between}

abbrev values : {K V : Type 0} → Option (K × Stretch K V) → Option V
values = option_map (λ e. e.1.value)

module _ {K V : Type 0} (cmp : K → K → Ordering) (o : IsTotalOrder cmp) (y : K × Stretch K V) (v : V) where
  abbrev given : Stretch K V
  given = record { end = y.1.end; value = v }

  abbrev anew : K × Stretch K V
  anew = (y.0, given)

  same_starts : (P : K → Type 0) (s t : List (K × Stretch K V)) → AllByRecursion (λ e. P e.0) (s ++ y ∷ t) → AllByRecursion (λ e. P e.0) (s ++ anew ∷ t)
  same_starts P [] t h = h
  same_starts P (e ∷ s) t h = (h.0, same_starts P s t h.1)

  apart_anew : (s t : List (K × Stretch K V)) → AreApart cmp (s ++ y ∷ t) → AreApart cmp (s ++ anew ∷ t)
  apart_anew [] t a = a
  apart_anew (e ∷ s) t a = (a.0, same_starts (λ x. is_le (cmp e.1.end x) ≡ true) s t a.1, apart_anew s t a.2)

  values_anew : (s t : List (K × Stretch K V)) (p : K) → AreApart cmp (s ++ y ∷ t)
      → value_at_point cmp (s ++ anew ∷ t) p ≡ cond (lies cmp y.0 y.1.end p) (Some v) (value_at_point cmp (s ++ y ∷ t) p)
  values_anew s t p a = go (lies cmp y.0 y.1.end p) refl
    where
      skip : (b : Bool) (e : K × Stretch K V) (q r : Option (K × Stretch K V)) → values q ≡ values r → values (cond b (Some e) q) ≡ values (cond b (Some e) r)
      skip true e q r h = refl
      skip false e q r h = h

      go : (b : Bool) → lies cmp y.0 y.1.end p ≡ b → value_at_point cmp (s ++ anew ∷ t) p ≡ cond b (Some v) (value_at_point cmp (s ++ y ∷ t) p)
      go true h = ap values (found_after _ s (anew ∷ t) (ended_before cmp o y.0 p s (lead_ends cmp s t y a) (and_left (is_le (cmp y.0 p)) _ h))
          ∙ ap (λ b. cond b (Some anew) (stretch_at cmp t p)) h)
      go false h = same s
        where
          same : (s : List (K × Stretch K V)) → value_at_point cmp (s ++ anew ∷ t) p ≡ value_at_point cmp (s ++ y ∷ t) p
          same [] = ap (λ b. values (cond b (Some anew) (stretch_at cmp t p))) h ∙ sym (ap (λ b. values (cond b (Some y) (stretch_at cmp t p))) h)
          same (e ∷ s) = skip (lies cmp e.0 e.1.end p) e _ _ (same s)

  -- where it stands, a put at its start leaves all else
  put_there : (s lead rest : List (K × Stretch K V)) → IsAscending cmp s → s ≡ lead ++ y ∷ rest → at cmp s y.0 ≡ Some y
      → put cmp s y.0 given ≡ lead ++ anew ∷ rest
  put_there s lead rest asc is stands =
      let parts = subst (IsAscending cmp) is asc in
      ap (λ m. below cmp s y.0 ++ (unwrap_or (option_map (λ e. e.0) m) y.0, given) ∷ above cmp s y.0) stands
      ∙ (λ i. sym (below_cut cmp s y.0) i ++ (y.0, given) ∷ sym (above_cut cmp s y.0) i)
      ∙ sym (ap (λ m. below cmp (cut cmp s y.0) y.0 ++ (unwrap_or (option_map (λ e. e.0) m) y.0, given) ∷ above cmp (cut cmp s y.0) y.0)
      (at_cut cmp s y.0))
      ∙ ap (λ l. put cmp l y.0 given) (cut_between cmp s lead rest y.0 y.1 o asc is)
      ∙ put_between cmp lead rest y.0 given (smaller_before cmp lead rest y parts)
      (all_map _ _ (λ e h. over_one cmp o y.0 e.0 h) rest (ascending_back cmp lead (y ∷ rest) parts).0)

  pub value_set : (s t : List (K × Stretch K V)) (p : K) → AreApart cmp s → stretch_at cmp s p ≡ Some y → t ≡ put cmp s y.0 given
      → AreApart cmp t × IsValueSet cmp p y.1.value v s t
  value_set s t p a there is =
      let f = found_between _ s y there in
      let new : t ≡ f.lead ++ anew ∷ f.rest =
      is ∙ put_there s f.lead f.rest (apart_ascend cmp o s a) f.is (stands_there cmp o s p y a there) in
      let parts : AreApart cmp (f.lead ++ y ∷ f.rest) = subst (AreApart cmp) f.is a in (
        subst (AreApart cmp) (sym new) (apart_anew f.lead f.rest parts),
        record {
          stretch = y;
          covers = there;
          value = refl;
          is = is;
          points = λ q. ap (λ l. value_at_point cmp l q) new ∙ values_anew f.lead f.rest q parts
              ∙ ap (λ l. cond (lies cmp y.0 y.1.end q) (Some v) (value_at_point cmp l q)) (sym f.is);
        },
      )

-- as a look-up at its start lends it, and another value takes the place of its own
pub set_there : {K V : Type 0} (cmp : K → K → Ordering) (o : IsTotalOrder cmp) (s t : List (K × Stretch K V)) (p : K) (y : K × Stretch K V)
    (lent : Stretch K V) (had left given : V) → AreApart cmp s → stretch_at cmp s p ≡ Some y → value_at cmp s y.0 ≡ Some lent → had ≡ lent.value
    → left ≡ given → t ≡ put cmp s y.0 (record { end = lent.end; value = left }) → AreApart cmp t × IsValueSet cmp p had given s t
set_there {K} {V} cmp o s t p y lent had left given a there held was leaves is =
    let same : y.1 ≡ lent = one_value _ _ (sym (ap (option_map (λ (e : K × Stretch K V). e.1)) (stands_there cmp o s p y a there)) ∙ held) in
    let new : t ≡ put cmp s y.0 (record { end = y.1.end; value = given }) =
    is ∙ ap (λ (x : Stretch K V). put cmp s y.0 (record { end = x.end; value = left })) (sym same)
    ∙ ap (λ v. put cmp s y.0 (record { end = y.1.end; value = v })) leaves in
    let both = value_set cmp o y given s t p a there new in
    (both.0, subst (λ v. IsValueSet cmp p v given s t) (ap (λ (x : Stretch K V). x.value) same ∙ sym was) both.1)
