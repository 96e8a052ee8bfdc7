-- What a call on a range makes of a list of stretches.
use Rattle.std.proofs.Common.{◌≡◌, Bool, true, false, cond, List, [], ◌∷◌, ◌++◌, Option, Some, None, inl, inr}
use Rattle.std.proofs.Common.{refl, sym, ap, ◌∙◌, subst, append_assoc, append-nil}
use Rattle.std.specs.Prelude.{◌&&◌, map, unwrap_or}
use Rattle.std.specs.List.{AllByRecursion}
use Rattle.std.specs.Option.{option_map}
use Rattle.std.specs.Cmp.{IsTotalOrder}
use Rattle.std.specs.Ordering.{is_lt, is_le, is_eq, is_gt, is_ge, ordering_reverse}
use Rattle.std.specs.declared.cmp.Ordering.{Ordering}
use Rattle.std.specs.declared.cmp.Ordering.TheVariants.{Less, Equal, Greater}
use Rattle.std.proofs.lemmas.Cmp.{tied_itself}
use Rattle.std.proofs.lemmas.List.{map-append}
use Rattle.std.proofs.lemmas.List.Elements.{filter-append}
use Rattle.fc_base.specs.Ascending.{IsAscending}
use Rattle.fc_base.specs.Halves.{not_below}
use Rattle.fc_base.specs.OneKey.{put}
use Rattle.fc_base.specs.Parts.{at, below, above}
use Rattle.fc_base.specs.Viewed.{over_one, own_order}
use Rattle.fc_base.proofs.AscendingFacts.{all_map, all_below}
use Rattle.fc_base.proofs.JoinedLaws.{halves_joined}
use Rattle.fc_laws.specs.Words.{last_item}
use Rattle.fc_intervals.specs.Steps.{before, ended, EndsBy, IsRest, starting}
use Rattle.fc_intervals.specs.Stretches.{AreApart, IsKept, IsWritten, lies, stretch_at, value_at_point}
use Rattle.fc_intervals.specs.declared.stretch.Stretch.{Stretch}
use Rattle.fc_intervals.proofs.Lists.{EndsIn, and_false, and_left, and_right, all_joined, all_at, all_over, all_pass, kept, left_out, not_found, found_in}
use Rattle.fc_intervals.proofs.Lists.{filters_both, found_after, found_before, no_last, last_is, ends_in}
use Rattle.fc_intervals.proofs.Order.{is_less, le_from_not_lt, not_lt_from_le, le_from_ge, less_le, le_less, le_le}
use Rattle.fc_intervals.proofs.Points.{EndBy, StartFrom, apart_kept, lead_ends, apart_rest, apart_ascend, apart_joined, ended_before, yet_to_come, end_by_ended}
use Rattle.fc_intervals.proofs.Points.{apart_ended, nothing_ended, value_ended}

-- a pair that is put between those below its key and those above it
module _ {K V : Type 0} (cmp : K → K → Ordering) (s t : List (K × V)) (k : K) (v : V) (less : AllByRecursion (λ e. cmp e.0 k ≡ Less) s)
    (more : AllByRecursion (λ e. cmp e.0 k ≡ Greater) t) where
  lower : below cmp (s ++ t) k ≡ s
  lower = filter-append _ s t ∙ ap (λ l. l ++ below cmp t k) (kept _ s (all_map _ _ (λ e h. ap is_lt h) s less))
      ∙ ap (λ l. s ++ l) (left_out _ t (all_map _ _ (λ e h. ap is_lt h) t more)) ∙ append-nil s

  upper : above cmp (s ++ t) k ≡ t
  upper = filter-append _ s t ∙ ap (λ l. l ++ above cmp t k) (left_out _ s (all_map _ _ (λ e h. ap is_gt h) s less))
      ∙ kept _ t (all_map _ _ (λ e h. ap is_gt h) t more)

  pub none_at : at cmp (s ++ t) k ≡ None
  none_at = not_found _ (s ++ t) (all_joined _ s t (all_map _ _ (λ e h. ap is_eq h) s less) (all_map _ _ (λ e h. ap is_eq h) t more))

  pub put_between : put cmp (s ++ t) k v ≡ s ++ (k, v) ∷ t
  put_between =
      ap (λ (l : List (K × V)). l ++ (unwrap_or (option_map (λ e. e.0) (at cmp (s ++ t) k)) k, v) ∷ above cmp (s ++ t) k) lower
      ∙ ap (λ (u : List (K × V)). s ++ (unwrap_or (option_map (λ e. e.0) (at cmp (s ++ t) k)) k, v) ∷ u) upper
      ∙ ap (λ (m : Option (K × V)). s ++ (unwrap_or (option_map (λ e. e.0) m) k, v) ∷ t) none_at

pub kept_same : {V : Type 0} (same : V → V → Type 0) (o : Option V) → IsKept same o o
kept_same same None = tt
kept_same same (Some x) = inl refl

-- stretches end by a point where the last of them does
pub ends_by : {K V : Type 0} (cmp : K → K → Ordering) (o : IsTotalOrder cmp) (s : List (K × Stretch K V)) → AreApart cmp s → (a : K)
    → EndsBy cmp a (last_item s) → EndBy cmp a s
ends_by {K} {V} cmp o s apart a h = go (last_item s) refl h
  where
    go : (l : Option (K × Stretch K V)) → last_item s ≡ l → EndsBy cmp a l → EndBy cmp a s
    go None e h = subst (EndBy cmp a) (sym (no_last _ e)) tt
    go (Some y) e h =
        let split : EndsIn s y = ends_in s y e in
        let parts : AreApart cmp (split.lead ++ y ∷ []) = subst (AreApart cmp) split.is apart in
        let by : is_le (cmp y.1.end a) ≡ true = le_from_not_lt o a y.1.end h in
        let start : is_le (cmp y.0 a) ≡ true = ap is_le (less_le o y.0 y.1.end a (apart_rest cmp split.lead (y ∷ []) parts).0 by) in
        subst (EndBy cmp a) (sym split.is) (all_joined _ split.lead (y ∷ [])
        (all_map _ _ (λ x l. le_le o x.1.end y.0 a l start) split.lead (lead_ends cmp split.lead [] y parts)) (by, tt))

-- the three ways in which the last of the stretches that start before a point is ended
module _ {K V : Type 0} (cmp : K → K → Ordering) (o : IsTotalOrder cmp) (s : List (K × Stretch K V)) (ascends : IsAscending cmp s) (a : K)
    (apart : AreApart cmp (below cmp s a)) where
  ended_all : EndBy cmp a (below cmp s a) → s ≡ before cmp s a ++ not_below cmp s a
  ended_all h = sym (halves_joined cmp cmp s a (own_order o) ascends) ∙ ap (λ l. l ++ not_below cmp s a) (sym (nothing_ended cmp o a (below cmp s a) h))

  pub end_none : below cmp s a ≡ [] → s ≡ before cmp s a ++ not_below cmp s a
  end_none e = ended_all (subst (EndBy cmp a) (sym e) tt)

  module _ (lead : List (K × Stretch K V)) (p : K × Stretch K V) (last : below cmp s a ≡ lead ++ p ∷ []) where
    pub end_kept : is_lt (cmp a p.1.end) ≡ false → s ≡ before cmp s a ++ not_below cmp s a
    end_kept h = ended_all (ends_by cmp o (below cmp s a) apart a (subst (EndsBy cmp a) (sym (ap last_item last ∙ last_is lead p)) h))

    pub end_written : is_lt (cmp a p.1.end) ≡ true
        → lead ++ (p.0, let x : Stretch K V = record { end = a; value = p.1.value } in x) ∷ not_below cmp s a ≡ before cmp s a ++ not_below cmp s a
    end_written h =
        let parts : AreApart cmp (lead ++ p ∷ []) = subst (AreApart cmp) last apart in
        let less : cmp p.0 a ≡ Less = all_at _ lead [] p (subst (AllByRecursion (λ x. cmp x.0 a ≡ Less)) last (all_below cmp s a)) in
        let lead_by : EndBy cmp a lead = all_map _ _ (λ x l. le_le o x.1.end p.0 a l (ap is_le less)) lead (lead_ends cmp lead [] p parts) in
        sym (
        ap (λ l. map (ended cmp a) l ++ not_below cmp s a) last
        ∙ ap (λ l. l ++ not_below cmp s a) (map-append (ended cmp a) lead (p ∷ []))
        ∙ ap (λ l. (l ++ ended cmp a p ∷ []) ++ not_below cmp s a) (nothing_ended cmp o a lead lead_by)
        ∙ append_assoc lead (ended cmp a p ∷ []) (not_below cmp s a)
        ∙ ap (λ t. lead ++ (p.0, let x : Stretch K V = record { end = cond t a p.1.end; value = p.1.value } in x) ∷ not_below cmp s a) h
        )

-- what starts before a point, ended there, still starts before it
pub front_less : {K V : Type 0} (cmp : K → K → Ordering) (s : List (K × Stretch K V)) (a : K) → AllByRecursion (λ e. cmp e.0 a ≡ Less) (before cmp s a)
front_less cmp s a = all_over (λ e. cmp e.0 a ≡ Less) (ended cmp a) (below cmp s a) (all_below cmp s a)

module _ {K V : Type 0} (cmp : K → K → Ordering) (o : IsTotalOrder cmp) (s : List (K × Stretch K V)) (apart : AreApart cmp s) where
  pub halves : (b : K) → below cmp s b ++ not_below cmp s b ≡ s
  halves b = halves_joined cmp cmp s b (own_order o) (apart_ascend cmp o s apart)

  pub start_from : (b : K) → StartFrom cmp b (not_below cmp s b)
  start_from b = all_map _ _ (λ e h. le_from_ge o e.0 b h) _ (all_pass (λ e. is_ge (cmp e.0 b)) s)

  -- the last that starts before a point, where it goes on after it
  module _ (b : K) (y : K × Stretch K V) (last : last_item (below cmp s b) ≡ Some y) (on : cmp b y.1.end ≡ Less) where
    split : EndsIn (below cmp s b) y
    split = ends_in (below cmp s b) y last

    whole : (split).lead ++ (y ∷ not_below cmp s b) ≡ s
    whole = sym (append_assoc (split).lead (y ∷ []) (not_below cmp s b)) ∙ ap (λ l. l ++ not_below cmp s b) (sym (split).is) ∙ halves b

    parts : AreApart cmp ((split).lead ++ (y ∷ not_below cmp s b))
    parts = subst (AreApart cmp) (sym whole) apart

    from_last : AreApart cmp (y ∷ not_below cmp s b)
    from_last = apart_rest cmp (split).lead (y ∷ not_below cmp s b) parts

    less_last : cmp y.0 b ≡ Less
    less_last = all_at _ (split).lead [] y (subst (AllByRecursion (λ x. cmp x.0 b ≡ Less)) (split).is (all_below cmp s b))

    pub after_greater : AllByRecursion (λ e. cmp e.0 b ≡ Greater) (not_below cmp s b)
    after_greater = all_map _ _ (λ e l. over_one cmp o b e.0 (less_le o b y.1.end e.0 on l)) (not_below cmp s b) (from_last).1

    pub at_last : (p : K) → is_le (cmp b p) ≡ true → stretch_at cmp s p ≡ cond (is_lt (cmp p y.1.end)) (Some y) (stretch_at cmp (not_below cmp s b) p)
    at_last p l =
        let from : is_le (cmp y.0 p) ≡ true = ap is_le (less_le o y.0 b p less_last l) in
        ap (λ t. stretch_at cmp t p) (sym whole)
        ∙ found_after _ (split).lead (y ∷ not_below cmp s b)
        (ended_before cmp o y.0 p (split).lead (lead_ends cmp (split).lead (not_below cmp s b) y parts) from)
        ∙ ap (λ t. cond (t && is_lt (cmp p y.1.end)) (Some y) (stretch_at cmp (not_below cmp s b) p)) from

  -- the rest after a point, and what starts after it
  module _ (same : V → V → Type 0) (b : K) where
    kept_pick : (t : Bool) (x z : K × Stretch K V) (q : Option (K × Stretch K V)) → same x.1.value z.1.value
        → IsKept same (option_map (λ e. e.1.value) (cond t (Some x) q)) (option_map (λ e. e.1.value) (cond t (Some z) q))
    kept_pick true x z q h = inr h
    kept_pick false x z q h = kept_same same (option_map (λ e. e.1.value) q)

    pub rest_from : (rest : Option (Stretch K V)) → StartFrom cmp b (starting b rest ++ not_below cmp s b)
    rest_from None = start_from b
    rest_from (Some r) = (ap is_le (tied_itself o b), start_from b)

    pub rest_apart : (rest : Option (Stretch K V)) → IsRest cmp same s b rest → AreApart cmp (starting b rest ++ not_below cmp s b)
    rest_apart None h = apart_kept cmp _ s apart
    rest_apart (Some r) h =
        let on : cmp b h.0.1.end ≡ Less = is_less _ h.2 in
        let more = from_last b h.0 h.1 on in (
          subst (λ e. cmp b e ≡ Less) (sym h.3) on,
          subst (λ e. AllByRecursion (λ x. is_le (cmp e x.0) ≡ true) (not_below cmp s b)) (sym h.3) more.1,
          more.2,
        )

    pub rest_value : (rest : Option (Stretch K V)) → IsRest cmp same s b rest → (p : K) → is_le (cmp b p) ≡ true
        → IsKept same (value_at_point cmp s p) (value_at_point cmp (starting b rest ++ not_below cmp s b) p)
    rest_value None h p l =
        let e : value_at_point cmp s p ≡ value_at_point cmp (not_below cmp s b) p =
        ap (option_map (λ (x : K × Stretch K V). x.1.value)) (ap (λ t. stretch_at cmp t p) (sym (halves b))
        ∙ found_after _ (below cmp s b) (not_below cmp s b)
        (ended_before cmp o b p (below cmp s b) (ends_by cmp o (below cmp s b) (apart_kept cmp _ s apart) b h) l)) in
        subst (λ v. IsKept same v (value_at_point cmp (not_below cmp s b) p)) (sym e) (kept_same same (value_at_point cmp (not_below cmp s b) p))
    rest_value (Some r) h p l =
        let others = stretch_at cmp (not_below cmp s b) p in
        let test = is_lt (cmp p h.0.1.end) in
        let e : value_at_point cmp s p ≡ option_map (λ x. x.1.value) (cond test (Some h.0) others) =
        ap (option_map (λ (x : K × Stretch K V). x.1.value)) (at_last b h.0 h.1 (is_less _ h.2) p l) in
        let f : value_at_point cmp ((b, r) ∷ not_below cmp s b) p ≡ option_map (λ x. x.1.value) (cond test (Some (b, r)) others) =
        ap (λ t. option_map (λ (x : K × Stretch K V). x.1.value) (cond (t && is_lt (cmp p r.end)) (Some (b, r)) others)) l
        ∙ ap (λ (n : K). option_map (λ (x : K × Stretch K V). x.1.value) (cond (is_lt (cmp p n)) (Some (b, r)) others)) h.3 in
        subst (λ v. IsKept same v (value_at_point cmp ((b, r) ∷ not_below cmp s b) p)) (sym e)
        (subst (λ v. IsKept same (option_map (λ x. x.1.value) (cond test (Some h.0) others)) v) (sym f) (kept_pick test h.0 (b, r) others h.4))

  -- what starts before a point, ended there
  module _ (a : K) where
    pub front : AreApart cmp (before cmp s a)
    front = apart_ended cmp o a (below cmp s a) (apart_kept cmp _ s apart) (all_below cmp s a)

    pub front_ends : EndBy cmp a (before cmp s a)
    front_ends = end_by_ended cmp o a (below cmp s a)

    value_before : (p : K) → cmp p a ≡ Less → value_at_point cmp (before cmp s a) p ≡ value_at_point cmp s p
    value_before p l = value_ended cmp o a p (below cmp s a) l ∙ ap (option_map (λ (x : K × Stretch K V). x.1.value))
        (found_in (λ e. lies cmp e.0 e.1.end p) (λ e. is_lt (cmp e.0 a)) (λ e h. ap is_lt (le_less o e.0 p a (and_left (is_le (cmp e.0 p)) _ h) l)) s)

    module _ (b : K) (upto : is_le (cmp a b) ≡ true) where
      module _ (same : V → V → Type 0) (rest : Option (Stretch K V)) (is_rest : IsRest cmp same s b rest) where
        abbrev back : List (K × Stretch K V)
        back = starting b rest ++ not_below cmp s b

        from_start : StartFrom cmp a back
        from_start = all_map _ _ (λ e h. le_le o a b e.0 upto h) back (rest_from same b rest)

        pub cut_apart : AreApart cmp (before cmp s a ++ back)
        cut_apart = apart_joined cmp o a (before cmp s a) back front front_ends (rest_apart same b rest is_rest) from_start

        pub cut_written : IsWritten cmp same a b None s (before cmp s a ++ back)
        cut_written = record {
          inside = λ p h. ap (option_map (λ (x : K × Stretch K V). x.1.value))
              (found_after _ (before cmp s a) back (ended_before cmp o a p (before cmp s a) front_ends (and_left (is_le (cmp a p)) _ h))
              ∙ yet_to_come cmp o b p back (rest_from same b rest) (is_less _ (and_right (is_le (cmp a p)) _ h)));
          before = λ p l. ap (option_map (λ (x : K × Stretch K V). x.1.value))
              (found_before _ (before cmp s a) back (yet_to_come cmp o b p back (rest_from same b rest) (less_le o p a b l upto))) ∙ value_before p l;
          after = λ p l. subst (λ v. IsKept same (value_at_point cmp s p) v) (sym (ap (option_map (λ (x : K × Stretch K V). x.1.value))
              (found_after _ (before cmp s a) back (ended_before cmp o a p (before cmp s a) front_ends (le_le o a b p upto l)))))
              (rest_value same b rest is_rest p l);
        }

        module _ (range : cmp a b ≡ Less) (g : Stretch K V) where
          put_given : put cmp (before cmp s a ++ back) a g ≡ before cmp s a ++ (a, g) ∷ back
          put_given = put_between cmp (before cmp s a) back a g (front_less cmp s a)
              (all_map _ _ (λ e h. over_one cmp o a e.0 (less_le o a b e.0 range h)) back (rest_from same b rest))

        -- the range and a value, at a key that is equal to its start
        module _ (range : cmp a b ≡ Less) (v : V) (key : K) (tied : cmp key a ≡ Equal) where
          abbrev given : K × Stretch K V
          given = (key, record { end = b; value = v })

          before_end : cmp key b ≡ Less
          before_end = o.congr key a b tied ∙ range

          from_key : is_le (cmp a key) ≡ true
          from_key = ap is_le (o.antisymm a key ∙ ap ordering_reverse tied)

          put_apart : AreApart cmp (before cmp s a ++ given ∷ back)
          put_apart = apart_joined cmp o a (before cmp s a) (given ∷ back) front front_ends
              (before_end, rest_from same b rest, rest_apart same b rest is_rest) (from_key, from_start)

          put_written : IsWritten cmp same a b (Some v) s (before cmp s a ++ given ∷ back)
          put_written = record {
            inside = λ p h. ap (option_map (λ (x : K × Stretch K V). x.1.value))
                (found_after _ (before cmp s a) (given ∷ back) (ended_before cmp o a p (before cmp s a) front_ends (and_left (is_le (cmp a p)) _ h))
                ∙ ap (λ t. cond t (Some given) (stretch_at cmp back p)) (ap (λ r. is_le r && is_lt (cmp p b)) (o.congr key a p tied) ∙ h));
            before = λ p l. ap (option_map (λ (x : K × Stretch K V). x.1.value))
                (found_before _ (before cmp s a) (given ∷ back) (yet_to_come cmp o a p (given ∷ back) (from_key, from_start) l)) ∙ value_before p l;
            after = λ p l. subst (λ u. IsKept same (value_at_point cmp s p) u) (sym (ap (option_map (λ (x : K × Stretch K V). x.1.value))
                (found_after _ (before cmp s a) (given ∷ back) (ended_before cmp o a p (before cmp s a) front_ends (ap is_le (less_le o a b p range l)))
                ∙ ap (λ t. cond (is_le (cmp key p) && t) (Some given) (stretch_at cmp back p)) (not_lt_from_le o b p l)
                ∙ ap (λ t. cond t (Some given) (stretch_at cmp back p)) (and_false (is_le (cmp key p))))))
                (rest_value same b rest is_rest p l);
          }

          pub put_all : (u : List (K × Stretch K V)) → u ≡ before cmp s a ++ given ∷ back → AreApart cmp u × IsWritten cmp same a b (Some v) s u
          put_all u is = (subst (AreApart cmp) (sym is) put_apart, subst (IsWritten cmp same a b (Some v) s) (sym is) put_written)

  -- a range in which no stretch goes on, since the last that starts before its end ends by its start
  module _ (same : V → V → Type 0) (a b : K) (range : cmp a b ≡ Less) (by : EndsBy cmp a (last_item (below cmp s b))) where
    all_by : EndBy cmp a (below cmp s b)
    all_by = ends_by cmp o (below cmp s b) (apart_kept cmp _ s apart) a by

    no_rest : (l : Option (K × Stretch K V)) → EndsBy cmp a l → EndsBy cmp b l
    no_rest None h = tt
    no_rest (Some y) h = not_lt_from_le o y.1.end b (ap is_le (le_less o y.1.end a b (le_from_not_lt o a y.1.end h) range))

    pub free_after : IsRest cmp same s b None
    free_after = no_rest (last_item (below cmp s b)) by

    start_before : (l : List (K × Stretch K V)) → AreApart cmp l → EndBy cmp a l → AllByRecursion (λ e. is_lt (cmp e.0 a) ≡ true) l
    start_before [] h e = tt
    start_before (x ∷ l) h e = (ap is_lt (less_le o x.0 x.1.end a h.0 e.0), start_before l h.2 e.1)

    both : (e : K × Stretch K V) (r : Ordering) → cmp e.0 a ≡ r → (is_lt (cmp e.0 b) && is_lt r) ≡ is_lt r
    both e Less h = ap (λ t. is_lt t && true) (o.trans e.0 a b h range)
    both e Equal h = and_false (is_lt (cmp e.0 b))
    both e Greater h = and_false (is_lt (cmp e.0 b))

    one_front : below cmp s b ≡ below cmp s a
    one_front = sym (kept (λ e. is_lt (cmp e.0 a)) (below cmp s b) (start_before (below cmp s b) (apart_kept cmp _ s apart) all_by))
        ∙ filters_both (λ e. is_lt (cmp e.0 b)) (λ e. is_lt (cmp e.0 a)) (λ e. is_lt (cmp e.0 a)) (λ e. both e (cmp e.0 a) refl) s

    free : s ≡ before cmp s a ++ not_below cmp s b
    free = sym (halves b) ∙ ap (λ l. l ++ not_below cmp s b) (sym (nothing_ended cmp o a (below cmp s b) all_by) ∙ ap (map (ended cmp a)) one_front)

    -- none starts where it does
    pub none_free : (g : Stretch K V) → at cmp s a ≡ None
    none_free g = ap (λ l. at cmp l a) free
        ∙ none_at cmp (before cmp s a) (not_below cmp s b) a g (front_less cmp s a)
        (all_map _ _ (λ e h. over_one cmp o a e.0 (less_le o a b e.0 range h)) (not_below cmp s b) (start_from b))

    pub free_list : (g : Stretch K V) → g.end ≡ b → (u : List (K × Stretch K V)) → u ≡ put cmp s a g
        → u ≡ before cmp s a ++ (a, record { end = b; value = g.value }) ∷ not_below cmp s b
    free_list g end u is =
        is ∙ ap (λ l. put cmp l a g) free ∙ put_given a b (ap is_le range) same None free_after range g
        ∙ ap (λ e. before cmp s a ++ (a, let x : Stretch K V = record { end = e; value = g.value } in x) ∷ not_below cmp s b) end

    pub put_free : (g : Stretch K V) → g.end ≡ b → (u : List (K × Stretch K V)) → u ≡ put cmp s a g → AreApart cmp u × IsWritten cmp same a b (Some g.value) s u
    put_free g end u is =
        put_all a b (ap is_le range) same None free_after range g.value a (tied_itself o a) u (free_list g end u is)

-- what an empty range leaves as it is
pub empty_written : {K V : Type 0} (cmp : K → K → Ordering) (o : IsTotalOrder cmp) (same : V → V → Type 0) (a b : K) (v : Option V)
    (s : List (K × Stretch K V)) → is_lt (cmp a b) ≡ false → IsWritten cmp same a b v s s
empty_written cmp o same a b v s empty = record {
  inside = λ p h. absurd (
      let less : cmp a b ≡ Less = le_less o a p b (and_left (is_le (cmp a p)) _ h) (is_less _ (and_right (is_le (cmp a p)) _ h)) in
      let no : true ≡ false = sym (ap is_lt less) ∙ empty in
      cc
      );
  before = λ p l. refl;
  after = λ p l. kept_same same (value_at_point cmp s p);
}
