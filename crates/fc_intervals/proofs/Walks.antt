-- Which stretches have a point in common with a range, and which parts of it none covers.
use Rattle.std.proofs.Common.{arith, ◌≡◌, Bool, true, false, cond, List, [], ◌∷◌, Option, Some, None, refl, sym, ap, ◌∙◌, subst}
use Rattle.std.specs.Prelude.{◌&&◌, ◌||◌, find}
use Rattle.std.specs.List.{AllByRecursion, filter, list_any}
use Rattle.std.specs.Option.{is_none}
use Rattle.std.specs.Cmp.{IsTotalOrder}
use Rattle.std.specs.Ordering.{is_lt, is_le, is_ge, ordering_reverse}
use Rattle.std.specs.declared.cmp.Ordering.{Ordering}
use Rattle.std.specs.declared.cmp.Ordering.TheVariants.{Less, Equal, Greater}
use Rattle.std.specs.declared.ops.Bound.TheVariants.{Included, Excluded}
use Rattle.std.specs.declared.ops.Range.{Range}
use Rattle.std.proofs.lemmas.Cmp.{tied_itself}
use Rattle.fc_base.specs.Ranges.{within}
use Rattle.fc_base.specs.Viewed.{over_one}
use Rattle.fc_base.proofs.AscendingFacts.{all_map}
use Rattle.fc_intervals.specs.Steps.{uncovered, with_range}
use Rattle.fc_intervals.specs.Stretches.{AreApart, AreGaps, AreSeparate, lies, meets, overlapping, stretch_at}
use Rattle.fc_intervals.specs.declared.stretch.Stretch.{Stretch}
use Rattle.fc_intervals.proofs.Laws.{meets_at}
use Rattle.fc_intervals.proofs.Lists.{and_left, and_right, all_pass, found_in, one_value}
use Rattle.fc_intervals.proofs.Order.{is_less, le_from_not_lt, lt_from_not_le, not_lt_from_le, not_le_from_less, less_le, le_less, le_le}
use Rattle.fc_intervals.proofs.Points.{StartFrom, apart_kept, yet_to_come}

module _ {X : Type 0} where
  -- what a search finds passes its test, and has what all have
  found_passes : (p : X → Bool) (s : List X) (y : X) → find p s ≡ Some y → p y ≡ true
  found_passes p [] y h = absurd cc
  found_passes p (x ∷ s) y h = go (p x) refl (found_passes p s y) h
    where
      go : (b : Bool) → p x ≡ b → (find p s ≡ Some y → p y ≡ true) → cond b (Some x) (find p s) ≡ Some y → p y ≡ true
      go true e more h = subst (λ z. p z ≡ true) (one_value x y h) e
      go false e more h = more h

  found_has : (P : X → Type 0) (p : X → Bool) (s : List X) (y : X) → AllByRecursion P s → find p s ≡ Some y → P y
  found_has P p [] y a h = absurd cc
  found_has P p (x ∷ s) y a h = go (p x) (found_has P p s y a.1) h
    where
      go : (b : Bool) → (find p s ≡ Some y → P y) → cond b (Some x) (find p s) ≡ Some y → P y
      go true more h = subst P (one_value x y h) a.0
      go false more h = more h

  pub kept_alike : (p q : X → Bool) (s : List X) → AllByRecursion (λ x. p x ≡ q x) s → filter p s ≡ filter q s
  kept_alike p q [] a = refl
  kept_alike p q (x ∷ s) a = ap (λ b. cond b (x ∷ filter p s) (filter p s)) a.0 ∙ ap (λ t. cond (q x) (x ∷ t) t) (kept_alike p q s a.1)

module _ {K V : Type 0} (cmp : K → K → Ordering) (o : IsTotalOrder cmp) (from : K) where
  -- the walk over what overlaps a range begins at f
  abbrev pub Begins : K → List (K × Stretch K V) → Type 0
  Begins f s = AllByRecursion (λ e. is_ge (cmp e.0 f) ≡ is_lt (cmp from e.1.end)) s

  later : (f n : K) (s : List (K × Stretch K V)) → cmp f n ≡ Less → cmp from n ≡ Less → StartFrom cmp n s → AreApart cmp s → Begins f s
  later f n [] p q starts a = tt
  later f n (e ∷ s) p q starts a = (
    ap is_ge (over_one cmp o f e.0 (less_le o f n e.0 p starts.0)) ∙ sym (ap is_lt (o.trans from e.0 e.1.end (less_le o from n e.0 q starts.0) a.0)),
    later f n s p q starts.1 a.2,
  )

  pub begins_at : (s : List (K × Stretch K V)) (y : K × Stretch K V) → AreApart cmp s → stretch_at cmp s from ≡ Some y → Begins y.0 s
  begins_at [] y a h = tt
  begins_at (e ∷ s) y a h = go (lies cmp e.0 e.1.end from) refl (begins_at s y a.2) h
    where
      go : (t : Bool) → lies cmp e.0 e.1.end from ≡ t → (stretch_at cmp s from ≡ Some y → Begins y.0 s)
          → cond t (Some e) (stretch_at cmp s from) ≡ Some y → Begins y.0 (e ∷ s)
      go true l more h = subst (λ (z : K × Stretch K V). Begins z.0 (e ∷ s)) (one_value e y h) (
        ap is_ge (tied_itself o e.0) ∙ sym (and_right (is_le (cmp e.0 from)) _ l),
        later e.0 e.1.end s a.0 (is_less _ (and_right (is_le (cmp e.0 from)) _ l)) a.1 a.2,
      )
      go false l more h =
          let before : is_le (cmp e.1.end y.0) ≡ true = found_has _ _ s y a.1 h in
          let start : is_le (cmp y.0 from) ≡ true = and_left (is_le (cmp y.0 from)) _ (found_passes _ s y h) in (
            ap is_ge (less_le o e.0 e.1.end y.0 a.0 before) ∙ sym (not_lt_from_le o e.1.end from (le_le o e.1.end y.0 from before start)),
            more h,
          )

  pub begins_there : (s : List (K × Stretch K V)) → AreApart cmp s → stretch_at cmp s from ≡ None → Begins from s
  begins_there [] a h = tt
  begins_there (e ∷ s) a h = go (lies cmp e.0 e.1.end from) refl (begins_there s a.2) h
    where
      side : (r : Ordering) → cmp e.0 from ≡ r → (is_le r && is_lt (cmp from e.1.end)) ≡ false → is_ge r ≡ is_lt (cmp from e.1.end)
      side Less h l = sym l
      side Equal h l = absurd (let no : true ≡ false = sym (ap is_lt (sym (o.congr e.0 from e.1.end h) ∙ a.0)) ∙ l in cc)
      side Greater h l = sym (ap is_lt (o.trans from e.0 e.1.end (o.antisymm from e.0 ∙ ap ordering_reverse h) a.0))

      go : (t : Bool) → lies cmp e.0 e.1.end from ≡ t → (stretch_at cmp s from ≡ None → Begins from s)
          → cond t (Some e) (stretch_at cmp s from) ≡ None → Begins from (e ∷ s)
      go true l more h = absurd cc
      go false l more h = (side (cmp e.0 from) refl l, more h)

  -- from there on, those that start before an end are those that overlap
  pub walked : (f to : K) (s : List (K × Stretch K V)) → cmp from to ≡ Less → Begins f s
      → within cmp (Included f) (Excluded to) s ≡ overlapping cmp s from to
  walked f to s range b = kept_alike _ _ s (all_map _ _ (λ e h. ap (λ t. t && is_lt (cmp e.0 to)) h
      ∙ ap (λ t. t && (is_lt (cmp from e.1.end) && is_lt (cmp e.0 to))) (sym (ap is_lt range))) s b)

module _ {K : Type 0} (cmp : K → K → Ordering) (o : IsTotalOrder cmp) where
  -- a range that may be empty holds the points in it
  nowhere : (a b p : K) → is_lt (cmp a b) ≡ false → lies cmp a b p ≡ false
  nowhere a b p empty = go (is_le (cmp a p)) refl
    where
      go : (t : Bool) → is_le (cmp a p) ≡ t → (t && is_lt (cmp p b)) ≡ false
      go true h = not_lt_from_le o b p (le_le o b a p (le_from_not_lt o a b empty) h)
      go false h = refl

  abbrev pub holds : K → List (Range K) → Bool
  holds p gaps = list_any (λ g. lies cmp g.start g.end p) gaps

  held_first : (a b p : K) (more : List (Range K)) → holds p (with_range cmp a b more) ≡ (lies cmp a b p || holds p more)
  held_first a b p more = go (is_lt (cmp a b)) refl
    where
      go : (t : Bool) → is_lt (cmp a b) ≡ t
          → holds p (cond t ((let r : Range K = record { start = a; end = b } in r) ∷ more) more) ≡ (lies cmp a b p || holds p more)
      go true h = refl
      go false h = ap (λ t. t || holds p more) (sym (nowhere a b p h))

  first_after : (a b : K) (more : List (Range K)) → AllByRecursion (λ g. is_le (cmp a g.start) ≡ true) more
      → AllByRecursion (λ g. is_le (cmp a g.start) ≡ true) (with_range cmp a b more)
  first_after a b more h = elim (is_lt (cmp a b)) as (λ t. AllByRecursion (λ g. is_le (cmp a g.start) ≡ true)
      (cond t ((let r : Range K = record { start = a; end = b } in r) ∷ more) more)) [ true ↦ (ap is_le (tied_itself o a), h) | false ↦ h ]

  first_separate : (a b : K) (more : List (Range K)) → AllByRecursion (λ g. cmp b g.start ≡ Less) more → AreSeparate cmp more
      → AreSeparate cmp (with_range cmp a b more)
  first_separate a b more h separate = go (is_lt (cmp a b)) refl
    where
      go : (t : Bool) → is_lt (cmp a b) ≡ t → AreSeparate cmp (cond t ((let r : Range K = record { start = a; end = b } in r) ∷ more) more)
      go true less = (is_less _ less, h, separate)
      go false less = separate

or_none : (b : Bool) → (b || false) ≡ (b && true)
or_none true = refl
or_none false = refl

-- a point before a stretch, in it or after it
around : {X : Type 0} (e : X) (S : Option X) (A B C D E F : Bool) → (B ≡ true → (C ≡ false) × (D ≡ true) × (E ≡ false) × (S ≡ None))
    → (B ≡ false → E ≡ true) → (C ≡ true → (A ≡ true) × (F ≡ false)) → (C ≡ false → F ≡ true)
    → ((A && B) || ((C && D) && is_none S)) ≡ ((A && D) && is_none (cond (E && F) (Some e) S))
around e S A B C D E F h i j k = grind arith

module _ {K V : Type 0} (cmp : K → K → Ordering) (o : IsTotalOrder cmp) (to : K) where
  -- all of the stretches end after a point, and start before the end of the range
  abbrev pub EndAfter : K → List (K × Stretch K V) → Type 0
  EndAfter a s = AllByRecursion (λ e. cmp a e.1.end ≡ Less) s

  abbrev pub StartBefore : List (K × Stretch K V) → Type 0
  StartBefore s = AllByRecursion (λ e. cmp e.0 to ≡ Less) s

  end_after : (n : K) (s : List (K × Stretch K V)) → AreApart cmp s → StartFrom cmp n s → EndAfter n s
  end_after n [] a starts = tt
  end_after n (e ∷ s) a starts = (le_less o n e.0 e.1.end starts.0 a.0, end_after n s a.2 starts.1)

  pub gap_points : (p a : K) (s : List (K × Stretch K V)) → AreApart cmp s → EndAfter a s → StartBefore s
      → holds cmp o p (uncovered cmp a to s) ≡ (lies cmp a to p && is_none (stretch_at cmp s p))
  gap_points p a [] h after starts = held_first cmp o a to p [] ∙ or_none (lies cmp a to p)
  gap_points p a (e ∷ s) h after starts =
      held_first cmp o a e.0 p (uncovered cmp e.1.end to s)
      ∙ ap (λ t. lies cmp a e.0 p || t) (gap_points p e.1.end s h.2 (end_after e.1.end s h.2 h.1) starts.1)
      ∙ around e (stretch_at cmp s p)
      (is_le (cmp a p)) (is_lt (cmp p e.0)) (is_le (cmp e.1.end p)) (is_lt (cmp p to)) (is_le (cmp e.0 p)) (is_lt (cmp p e.1.end))
      (λ b. let less : cmp p e.0 ≡ Less = is_less _ b in
      let inner : cmp p e.1.end ≡ Less = o.trans p e.0 e.1.end less h.0 in
      (not_le_from_less o p e.1.end inner, ap is_lt (o.trans p e.0 to less starts.0), not_le_from_less o p e.0 less, yet_to_come cmp o e.1.end p s h.1 inner))
      (λ b. le_from_not_lt o p e.0 b)
      (λ c. (ap is_le (less_le o a e.1.end p after.0 c), not_lt_from_le o e.1.end p c))
      (λ c. lt_from_not_le o e.1.end p c)

  -- the gaps from a point on start there or after
  start_after : (a : K) (s : List (K × Stretch K V)) → AreApart cmp s → EndAfter a s
      → AllByRecursion (λ g. is_le (cmp a g.start) ≡ true) (uncovered cmp a to s)
  start_after a [] h after = first_after cmp o a to [] tt
  start_after a (e ∷ s) h after = first_after cmp o a e.0 _ (all_map _ _ (λ g l. le_le o a e.1.end g.start (ap is_le after.0) l) _
      (start_after e.1.end s h.2 (end_after e.1.end s h.2 h.1)))

  gaps_separate : (a : K) (s : List (K × Stretch K V)) → AreApart cmp s → AreSeparate cmp (uncovered cmp a to s)
  gaps_separate a [] h = first_separate cmp o a to [] tt tt
  gaps_separate a (e ∷ s) h = first_separate cmp o a e.0 _ (all_map _ _ (λ g l. less_le o e.0 e.1.end g.start h.0 l) _
      (start_after e.1.end s h.2 (end_after e.1.end s h.2 h.1))) (gaps_separate e.1.end s h.2)

  module _ (from : K) (s : List (K × Stretch K V)) where
    -- a point of the range lies in those that overlap it just where it lies in any
    among : (p : K) → lies cmp from to p ≡ true → stretch_at cmp (overlapping cmp s from to) p ≡ stretch_at cmp s p
    among p h = found_in (λ e. lies cmp e.0 e.1.end p) (meets cmp from to) (λ e l. meets_at cmp o from to e p h l) s

    pub gaps_are : AreApart cmp s → (held : List (K × Stretch K V)) → held ≡ overlapping cmp s from to → AreGaps cmp s from to (uncovered cmp from to held)
    gaps_are a held is =
        let apart : AreApart cmp held = subst (AreApart cmp) (sym is) (apart_kept cmp (meets cmp from to) s a) in
        let meet = subst (AllByRecursion (λ e. meets cmp from to e ≡ true)) (sym is) (all_pass (meets cmp from to) s) in
        let ends : EndAfter from held =
        all_map _ _ (λ e h. is_less _ (and_left (is_lt (cmp from e.1.end)) _ (and_right (is_lt (cmp from to)) _ h))) held meet in
        let starts : StartBefore held =
        all_map _ _ (λ e h. is_less _ (and_right (is_lt (cmp from e.1.end)) _ (and_right (is_lt (cmp from to)) _ h))) held meet in
        record {
          separate = gaps_separate from held apart;
          points = λ p. gap_points p from held apart ends starts ∙ ap (λ t. lies cmp from to p && is_none (stretch_at cmp t p)) is
              ∙ same p (lies cmp from to p) refl;
        }
      where
        same : (p : K) (t : Bool) → lies cmp from to p ≡ t
            → (lies cmp from to p && is_none (stretch_at cmp (overlapping cmp s from to) p)) ≡ (lies cmp from to p && is_none (stretch_at cmp s p))
        same p true h = ap (λ q. lies cmp from to p && is_none q) (among p h)
        same p false h = ap (λ t. t && is_none (stretch_at cmp (overlapping cmp s from to) p)) h ∙ ap (λ t. t && is_none (stretch_at cmp s p)) (sym h)
