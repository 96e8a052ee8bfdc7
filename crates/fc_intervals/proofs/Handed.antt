-- Stretches that go out of a range of a list, one after another, and are handed over.
use Rattle.std.proofs.Common.{◌≡◌, ◌⊎◌, Result, Ok, Err, IsOk, IfErr, inl, inr, Bool, true, false, cond, List, [], ◌∷◌, ◌++◌, Option, Some, None}
use Rattle.std.proofs.Common.{refl, sym, ap, ◌∙◌, subst, append-nil, append_assoc}
use Rattle.std.specs.Prelude.{◌&&◌, not, map}
use Rattle.std.specs.List.{AllByRecursion, filter, find}
use Rattle.std.specs.Fn.{Mut, Called}
use Rattle.std.specs.Cmp.{IsTotalOrder}
use Rattle.std.specs.Ordering.{is_lt, is_le, is_eq, is_ge, ord_min}
use Rattle.std.specs.declared.cmp.Ordering.{Ordering}
use Rattle.std.specs.declared.cmp.Ordering.TheVariants.{Less}
use Rattle.std.specs.declared.ops.Bound.TheVariants.{Included, Excluded}
use Rattle.std.specs.declared.ops.Range.{Range}
use Rattle.std.proofs.lemmas.Cmp.{tied_itself}
use Rattle.std.proofs.lemmas.List.{map-append}
use Rattle.std.proofs.lemmas.List.Elements.{filter-append}
use Rattle.fc_base.specs.Ascending.{IsAscending}
use Rattle.fc_base.specs.Halves.{not_below}
use Rattle.fc_base.specs.OneKey.{cut}
use Rattle.fc_base.specs.Parts.{at, below}
use Rattle.fc_base.specs.Ranges.{within}
use Rattle.fc_base.proofs.AscendingFacts.{all_map, asc_filter, is_equal}
use Rattle.fc_base.proofs.Laws.{cut_absent, cut_first}
use Rattle.fc_laws.proofs.PairLaws.{filter_cut}
use Rattle.fc_map.specs.Ranged.{outside}
use Rattle.fc_intervals.specs.Handed.{GivenStretch, HandsInTurn, IsCutOut, MayRefuseCopy}
use Rattle.fc_base.specs.declared.try_reserve_error.TryReserveError.{TryReserveError}
use Rattle.fc_laws.specs.Words.{last_item}
use Rattle.fc_intervals.specs.Refusals.{ends_after, goes_across, MayRefuseRest}
use Rattle.fc_intervals.specs.Steps.{before, ended, IsRest, starting}
use Rattle.fc_intervals.specs.Stretches.{AreApart}
use Rattle.fc_intervals.specs.declared.stretch.Stretch.{Stretch}
use Rattle.fc_intervals.proofs.Lists.{all_pass, and_false, filters_both, found_in, left_out, not_found}
use Rattle.fc_intervals.proofs.Order.{not_lt_from_le}
use Rattle.fc_intervals.proofs.Put.{no_rest}
use Rattle.fc_intervals.proofs.Written.{front_less, rest_from}

-- what a test passes on nowhere passes its opposite everywhere
all_left : {X : Type 0} (p : X → Bool) (s : List X) → filter p s ≡ [] → filter (λ x. not (p x)) s ≡ s
all_left p [] e = refl
all_left p (x ∷ s) e = go (p x) e (all_left p s)
  where
    go : (b : Bool) → cond b (x ∷ filter p s) (filter p s) ≡ [] → (filter p s ≡ [] → filter (λ y. not (p y)) s ≡ s)
        → cond (not b) (x ∷ filter (λ y. not (p y)) s) (filter (λ y. not (p y)) s) ≡ x ∷ s
    go true none more = absurd cc
    go false none more = ap (λ l. x ∷ l) (more none)

twice : (b c : Bool) → (b && (b && c)) ≡ (b && c)
twice true c = refl
twice false c = refl

last_twice : (b c : Bool) → (c && (b && c)) ≡ (b && c)
last_twice b true = refl
last_twice b false = sym (and_false b)

module _ {K V : Type 0} (cmp : K → K → Ordering) (a b : K) where
  abbrev pub starts_in : K × Stretch K V → Bool
  starts_in e = is_ge (cmp e.0 a) && is_lt (cmp e.0 b)

  abbrev pub inside : List (K × Stretch K V) → List (K × Stretch K V)
  inside s = within cmp (Included a) (Excluded b) s

  abbrev pub others : List (K × Stretch K V) → List (K × Stretch K V)
  others s = outside cmp (Included a) (Excluded b) s

  module _ {F : Type 0} (R : F → K × Stretch K V → F → Type 0) where
    -- Those that start in the range, the first of the list, were handed over in turn, up to the range's end, which took f to f'.
    pub record AreHanded (f f' : F) (s t : List (K × Stretch K V)) : Type 0 where
      pub handed : List (K × Stretch K V)
      pub joined : inside s ≡ handed ++ inside t
      pub left : others t ≡ others s
      pub in_turn : HandsInTurn R f (map (ended cmp b) handed) f'

    pub none_handed : (f : F) (s : List (K × Stretch K V)) → AreHanded f f s s
    none_handed f s = record { handed = []; joined = refl; left = refl; in_turn = refl }

    pub handed_both : (s t : List (K × Stretch K V)) (f g h : F) → HandsInTurn R f s g → HandsInTurn R g t h → HandsInTurn R f (s ++ t) h
    handed_both [] t f g h first second = subst (λ x. HandsInTurn R x t h) first second
    handed_both (e ∷ s) t f g h first second = (first.0, first.1, handed_both s t first.0 g h first.2 second)

    pub one_more : (f g h : F) (s t u : List (K × Stretch K V)) (e : K × Stretch K V) → AreHanded f g s t → inside t ≡ e ∷ inside u
        → others u ≡ others t → R g (ended cmp b e) h → AreHanded f h s u
    one_more f g h s t u e so_far first same called = record {
      handed = so_far.handed ++ e ∷ [];
      joined = so_far.joined ∙ ap (λ l. so_far.handed ++ l) first ∙ sym (append_assoc so_far.handed (e ∷ []) (inside u));
      left = same ∙ so_far.left;
      in_turn = subst (λ l. HandsInTurn R f l h) (sym (map-append (ended cmp b) so_far.handed (e ∷ [])))
          (handed_both (map (ended cmp b) so_far.handed) (ended cmp b e ∷ []) f g h so_far.in_turn (h, called, refl));
    }

    -- Where none starts there any more, all were, and the others are left.
    pub all_handed : (f f' : F) (s t u : List (K × Stretch K V)) → AreHanded f f' s t → u ≡ t → inside u ≡ []
        → (u ≡ others s) × HandsInTurn R f (map (ended cmp b) (inside s)) f'
    all_handed f f' s t u so_far same none =
        let all : inside s ≡ so_far.handed =
        so_far.joined ∙ ap (λ l. so_far.handed ++ l) (sym (ap inside same) ∙ none) ∙ append-nil so_far.handed in (
          sym (all_left starts_in u none) ∙ ap others same ∙ so_far.left,
          subst (λ l. HandsInTurn R f (map (ended cmp b) l) f') (sym all) so_far.in_turn,
        )

  -- what was handed over ends at the range's end, or before
  pub up_to : {F : Type 0} (g : Mut F (Range K × (V × Unit {0})) (Unit {0})) (e : K × Stretch K V) (end : K) (f f' : F) → end ≡ ord_min cmp e.1.end b
      → Called g f (record { start = e.0; end = end }, (e.1.value, tt)) tt f' → GivenStretch g f (ended cmp b e) f'
  up_to g e end f f' is called = subst (λ z. Called g f (record { start = e.0; end = z }, (e.1.value, tt)) tt f') is called

module _ {K V : Type 0} (cmp : K → K → Ordering) (o : IsTotalOrder cmp) (a b : K) where
  -- the first of those that start in a range, taken out
  module _ (s more : List (K × Stretch K V)) (e : K × Stretch K V) (is : inside cmp a b s ≡ e ∷ more) where
    passes : starts_in cmp a b e ≡ true
    passes = (subst (AllByRecursion (λ x. starts_in cmp a b x ≡ true)) is (all_pass (starts_in cmp a b) s)).0

    equal_passes : (x : K × Stretch K V) → is_eq (cmp x.0 e.0) ≡ true → starts_in cmp a b x ≡ true
    equal_passes x h =
        ap (λ r. is_ge r && is_lt (cmp x.0 b)) (o.congr x.0 e.0 a (is_equal _ h))
        ∙ ap (λ r. is_ge (cmp e.0 a) && is_lt r) (o.congr x.0 e.0 b (is_equal _ h)) ∙ passes

    pub stands : at cmp s e.0 ≡ Some e
    stands =
        sym (found_in (λ x. is_eq (cmp x.0 e.0)) (starts_in cmp a b) equal_passes s) ∙ ap (λ l. at cmp l e.0) is
        ∙ ap (λ r. cond (is_eq r) (Some e) (at cmp more e.0)) (tied_itself o e.0)

    module _ (asc : IsAscending cmp s) where
      pub inside_less : inside cmp a b (cut cmp s e.0) ≡ more
      inside_less =
          filter_cut cmp (starts_in cmp a b) s e.0 ∙ cut_first cmp (inside cmp a b s) more e.0 e.1 o (asc_filter cmp (starts_in cmp a b) s asc) is

      pub others_same : others cmp a b (cut cmp s e.0) ≡ others cmp a b s
      others_same =
          filter_cut cmp (λ x. not (starts_in cmp a b x)) s e.0
          ∙ cut_absent cmp (others cmp a b s) e.0 o (asc_filter cmp (λ x. not (starts_in cmp a b x)) s asc)
          (not_found (λ x. is_eq (cmp x.0 e.0)) (others cmp a b s) (all_map _ _ (λ x h. go x h (is_eq (cmp x.0 e.0)) refl) (others cmp a b s)
          (all_pass (λ x. not (starts_in cmp a b x)) s)))
        where
          go : (x : K × Stretch K V) → not (starts_in cmp a b x) ≡ true → (t : Bool) → is_eq (cmp x.0 e.0) ≡ t → t ≡ false
          go x h true same = absurd (let no : false ≡ true = sym (ap not (equal_passes x same)) ∙ h in cc)
          go x h false same = refl

  -- those that start in a range, once what goes on after it starts at its end, and what starts before it ends at its start
  module _ (s : List (K × Stretch K V)) (apart : AreApart cmp s) (range : cmp a b ≡ Less) (same : V → V → Type 0) where
    inside_ended : (t : List (K × Stretch K V)) → inside cmp a b (before cmp t a ++ not_below cmp t a) ≡ inside cmp a b t
    inside_ended t =
        filter-append (starts_in cmp a b) (before cmp t a) (not_below cmp t a)
        ∙ ap (λ l. l ++ inside cmp a b (not_below cmp t a)) (left_out (starts_in cmp a b) (before cmp t a)
        (all_map _ _ (λ e h. ap (λ r. is_ge r && is_lt (cmp e.0 b)) h) (before cmp t a) (front_less cmp t a)))
        ∙ filters_both (λ e. is_ge (cmp e.0 a)) (starts_in cmp a b) (starts_in cmp a b) (λ e. twice (is_ge (cmp e.0 a)) (is_lt (cmp e.0 b))) t

    inside_parted : (rest : Option (Stretch K V)) → inside cmp a b (below cmp s b ++ (starting b rest ++ not_below cmp s b)) ≡ inside cmp a b s
    inside_parted rest =
        let back = starting b rest ++ not_below cmp s b in
        filter-append (starts_in cmp a b) (below cmp s b) back
        ∙ ap (λ l. l ++ inside cmp a b back)
        (filters_both (λ e. is_lt (cmp e.0 b)) (starts_in cmp a b) (starts_in cmp a b) (λ e. last_twice (is_ge (cmp e.0 a)) (is_lt (cmp e.0 b))) s)
        ∙ ap (λ l. inside cmp a b s ++ l) (left_out (starts_in cmp a b) back (all_map _ _
        (λ e h. ap (λ t. is_ge (cmp e.0 a) && t) (not_lt_from_le o b e.0 h) ∙ and_false (is_ge (cmp e.0 a))) back (rest_from cmp o s apart same b rest)))
        ∙ append-nil (inside cmp a b s)

    below_starting : (first : Option (Stretch K V)) (t : List (K × Stretch K V)) → below cmp (starting a first ++ t) b ≡ starting a first ++ below cmp t b
    below_starting None t = refl
    below_starting (Some r) t = ap (λ x. cond (is_lt x) ((a, r) ∷ below cmp t b) (below cmp t b)) range

    pub cut_out : (first rest : Option (Stretch K V)) → IsRest cmp same s a first → (t u : List (K × Stretch K V))
        → t ≡ below cmp s b ++ (starting b rest ++ not_below cmp s b) → u ≡ before cmp t a ++ not_below cmp t a
        → IsCutOut cmp same a b s (map (ended cmp b) (starting a first) ++ map (ended cmp b) (inside cmp a b u))
    cut_out first rest is_first t u parted ends = record {
      rest = first;
      is_rest = is_first;
      is = sym (map-append (ended cmp b) (starting a first) (inside cmp a b u))
          ∙ ap (λ l. map (ended cmp b) (starting a first ++ l)) (ap (inside cmp a b) ends ∙ inside_ended t ∙ ap (inside cmp a b) parted ∙ inside_parted rest
          ∙ sym (filters_both (λ e. is_ge (cmp e.0 a)) (λ e. is_lt (cmp e.0 b)) (starts_in cmp a b) (λ e. refl) s))
          ∙ ap (map (ended cmp b)) (sym (below_starting first (not_below cmp s a)));
    }

-- where nothing goes on across an end of the range, no memory is needed
pub sure_cut : {X K V : Type 0} (cmp : K → K → Ordering) (may_refuse : V → TryReserveError → Type 0) (s : List (K × Stretch K V)) (a b : K)
    (r : Result X TryReserveError) → IfErr r (λ e. MayRefuseCopy cmp may_refuse s a e ⊎ MayRefuseRest cmp may_refuse s b e)
    → goes_across cmp s a ≡ false → goes_across cmp s b ≡ false → IsOk r
sure_cut cmp may_refuse s a b (Ok x) h none last = refl
sure_cut cmp may_refuse s a b (Err e) h none last = absurd (elim h as (λ _. ⊥) [
  | inl copy ↦ let no : true ≡ false = sym (ap (ends_after cmp a) copy.1 ∙ copy.2) ∙ none in cc
  | inr rest ↦ no_rest cmp may_refuse s b e last rest
])
