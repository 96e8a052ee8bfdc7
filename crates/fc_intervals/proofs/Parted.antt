-- A list of stretches in which what goes on after a point starts there too, and what a call on a range makes of it.
use Rattle.std.proofs.Common.{◌≡◌, Bool, true, false, cond, List, ◌∷◌, ◌++◌, Option, Some, None, refl, sym, ap, ◌∙◌, subst, append-nil}
use Rattle.std.specs.Prelude.{◌&&◌, not, map, unwrap_or}
use Rattle.std.specs.List.{filter}
use Rattle.std.specs.Option.{option_map}
use Rattle.std.specs.Cmp.{IsTotalOrder}
use Rattle.std.specs.Ordering.{is_lt, is_le, is_eq, is_gt, is_ge}
use Rattle.std.specs.declared.cmp.Ordering.{Ordering}
use Rattle.std.specs.declared.cmp.Ordering.TheVariants.{Less, Equal, Greater}
use Rattle.std.specs.declared.ops.Bound.TheVariants.{Included, Excluded}
use Rattle.std.proofs.lemmas.List.Elements.{filter-append}
use Rattle.fc_base.specs.Halves.{not_below}
use Rattle.fc_base.specs.OneKey.{put, cut}
use Rattle.fc_base.specs.Parts.{at, below, above}
use Rattle.fc_base.proofs.AscendingFacts.{all_map, all_below, at_key}
use Rattle.fc_base.proofs.Laws.{cut_put_new}
use Rattle.fc_laws.proofs.NeighbourLaws.{below_put, not_below_put}
use Rattle.fc_laws.specs.Words.{last_item}
use Rattle.fc_map.specs.Ranged.{outside}
use Rattle.fc_intervals.specs.Steps.{before, ended, IsCut, IsParted, IsRest, starting}
use Rattle.fc_intervals.specs.Stretches.{AreApart, IsWritten}
use Rattle.fc_intervals.specs.declared.stretch.Stretch.{Stretch}
use Rattle.fc_intervals.proofs.Lists.{and_false, kept, left_out, filters_both, not_found, all_joined}
use Rattle.fc_intervals.proofs.Order.{is_less, not_less, not_lt_from_le, ge_from_le, less_le, le_le}
use Rattle.fc_intervals.proofs.Points.{apart_ascend, apart_kept}
use Rattle.fc_intervals.proofs.Written.{after_greater, cut_apart, cut_written, front_less, halves, put_all, put_between, rest_from}

-- the stretches of a range, of which the first begins after its start, go out of a list
module _ {K V : Type 0} (cmp : K → K → Ordering) (o : IsTotalOrder cmp) (s : List (K × Stretch K V)) (a b : K) where
  pub cleared_is : is_le (cmp a b) ≡ true
      → outside cmp (Included a) (Excluded b) (before cmp s a ++ not_below cmp s a) ≡ before cmp s a ++ not_below cmp s b
  cleared_is upto =
      filter-append _ (before cmp s a) (not_below cmp s a)
      ∙ ap (λ l. l ++ filter (λ e. not (is_ge (cmp e.0 a) && is_lt (cmp e.0 b))) (not_below cmp s a))
      (kept (λ e. not (is_ge (cmp e.0 a) && is_lt (cmp e.0 b))) (before cmp s a)
      (all_map _ _ (λ e h. ap (λ r. not (is_ge r && is_lt (cmp e.0 b))) h) (before cmp s a) (front_less cmp s a)))
      ∙ ap (λ l. before cmp s a ++ l) (filters_both (λ e. is_ge (cmp e.0 a)) (λ e. not (is_ge (cmp e.0 a) && is_lt (cmp e.0 b))) (λ e. is_ge (cmp e.0 b))
      (λ e. go e (cmp e.0 a) refl) s)
    where
      go : (e : K × Stretch K V) (r : Ordering) → cmp e.0 a ≡ r → (is_ge r && not (is_ge r && is_lt (cmp e.0 b))) ≡ is_ge (cmp e.0 b)
      go e Less h = sym (ap is_ge (less_le o e.0 a b h upto))
      go e Equal h = not_less (cmp e.0 b)
      go e Greater h = not_less (cmp e.0 b)

  -- those after the start alone
  after_start : cmp a b ≡ Less → filter (λ e. not (is_gt (cmp e.0 a) && is_lt (cmp e.0 b))) (above cmp s a) ≡ not_below cmp s b
  after_start range = filters_both (λ e. is_gt (cmp e.0 a)) (λ e. not (is_gt (cmp e.0 a) && is_lt (cmp e.0 b))) (λ e. is_ge (cmp e.0 b))
      (λ e. go e (cmp e.0 a) refl) s
    where
      go : (e : K × Stretch K V) (r : Ordering) → cmp e.0 a ≡ r → (is_gt r && not (is_gt r && is_lt (cmp e.0 b))) ≡ is_ge (cmp e.0 b)
      go e Less h = sym (ap is_ge (o.trans e.0 a b h range))
      go e Equal h = sym (ap is_ge (o.congr e.0 a b h ∙ range))
      go e Greater h = not_less (cmp e.0 b)

  module _ (range : cmp a b ≡ Less) (g : Stretch K V) where
    abbrev key : K
    key = unwrap_or (option_map (λ e. e.0) (at cmp s a)) a

    abbrev with_range : List (K × Stretch K V)
    with_range = put cmp s a g

    -- a stretch that was put at the start stays
    put_cleared : outside cmp (Excluded a) (Excluded b) (before cmp with_range a ++ not_below cmp with_range a)
        ≡ before cmp s a ++ (key, g) ∷ not_below cmp s b
    put_cleared =
        let p : K × Stretch K V → Bool = λ e. not (is_gt (cmp e.0 a) && is_lt (cmp e.0 b)) in
        ap (λ l. filter (λ e. not (is_gt (cmp e.0 a) && is_lt (cmp e.0 b))) (map (ended cmp a) l ++ not_below cmp with_range a)) (below_put cmp s a g o)
        ∙ ap (λ l. filter (λ e. not (is_gt (cmp e.0 a) && is_lt (cmp e.0 b))) (before cmp s a ++ l)) (not_below_put cmp s a g o)
        ∙ filter-append p (before cmp s a) ((key, g) ∷ above cmp s a)
        ∙ ap (λ l. l ++ filter p ((key, g) ∷ above cmp s a)) (kept p (before cmp s a)
        (all_map _ _ (λ e h. ap (λ r. not (is_gt r && is_lt (cmp e.0 b))) h) (before cmp s a) (front_less cmp s a)))
        ∙ ap (λ r. before cmp s a ++ cond (not (is_gt r && is_lt (cmp key b))) ((key, g) ∷ filter p (above cmp s a)) (filter p (above cmp s a)))
        (at_key cmp o a s)
        ∙ ap (λ l. before cmp s a ++ (key, g) ∷ l) (after_start range)

module _ {K V : Type 0} (cmp : K → K → Ordering) (o : IsTotalOrder cmp) (s : List (K × Stretch K V)) (apart : AreApart cmp s)
    (same : V → V → Type 0) (b : K) where
  module _ (y : K × Stretch K V) (r : Stretch K V) (last : last_item (below cmp s b) ≡ Some y) (on : cmp b y.1.end ≡ Less) where
    -- none starts where one goes on
    pub none_starts : at cmp s b ≡ None
    none_starts = ap (λ l. at cmp l b) (sym (halves cmp o s apart b))
        ∙ not_found _ (below cmp s b ++ not_below cmp s b) (all_joined _ (below cmp s b) (not_below cmp s b)
        (all_map _ _ (λ e h. ap is_eq h) (below cmp s b) (all_below cmp s b))
        (all_map _ _ (λ e h. ap is_eq h) (not_below cmp s b) (after_greater cmp o s apart b y last on)))

    -- the rest finds its place, and can be taken out again
    put_rest : put cmp s b r ≡ below cmp s b ++ (b, r) ∷ not_below cmp s b
    put_rest = ap (λ l. put cmp l b r) (sym (halves cmp o s apart b))
        ∙ put_between cmp (below cmp s b) (not_below cmp s b) b r (all_below cmp s b) (after_greater cmp o s apart b y last on)

    cut_rest : cut cmp (put cmp s b r) b ≡ s
    cut_rest = cut_put_new cmp s b r o (apart_ascend cmp o s apart) none_starts

  pub not_parted : IsRest cmp same s b None → IsParted cmp same b false s s
  not_parted h = record { rest = None; is_rest = h; is = sym (halves cmp o s apart b); undone = refl }

  pub is_parted : (r : Stretch K V) → IsRest cmp same s b (Some r) → (t : List (K × Stretch K V)) → t ≡ put cmp s b r → IsParted cmp same b true s t
  is_parted r h t e =
      let on : cmp b h.0.1.end ≡ Less = is_less _ h.2 in
      record {
        rest = Some r;
        is_rest = h;
        is = e ∙ put_rest h.0 r h.1 on;
        undone = ap (λ l. cut cmp l b) e ∙ cut_rest h.0 r h.1 on;
      }

  module _ (rest : Option (Stretch K V)) (is_rest : IsRest cmp same s b rest) where
    abbrev back : List (K × Stretch K V)
    back = starting b rest ++ not_below cmp s b

    abbrev parted : List (K × Stretch K V)
    parted = below cmp s b ++ back

    not_below_parted : not_below cmp parted b ≡ back
    not_below_parted =
        filter-append _ (below cmp s b) back
        ∙ ap (λ l. l ++ not_below cmp back b) (left_out _ (below cmp s b) (all_map _ _ (λ e h. ap is_ge h) (below cmp s b) (all_below cmp s b)))
        ∙ kept _ back (all_map _ _ (λ e h. ge_from_le o b e.0 h) back (rest_from cmp o s apart same b rest))

    module _ (a : K) (upto : is_le (cmp a b) ≡ true) where
      both : (e : K × Stretch K V) (r : Ordering) → cmp e.0 a ≡ r → (is_lt (cmp e.0 b) && is_lt r) ≡ is_lt r
      both e Less h = ap (λ t. is_lt t && true) (less_le o e.0 a b h upto)
      both e Equal h = and_false (is_lt (cmp e.0 b))
      both e Greater h = and_false (is_lt (cmp e.0 b))

      below_parted : below cmp parted a ≡ below cmp s a
      below_parted =
          filter-append _ (below cmp s b) back
          ∙ ap (λ l. l ++ below cmp back a)
          (filters_both (λ e. is_lt (cmp e.0 b)) (λ e. is_lt (cmp e.0 a)) (λ e. is_lt (cmp e.0 a)) (λ e. both e (cmp e.0 a) refl) s)
          ∙ ap (λ l. below cmp s a ++ l) (left_out _ back
          (all_map _ _ (λ e h. not_lt_from_le o a e.0 (le_le o a b e.0 upto h)) back (rest_from cmp o s apart same b rest)))
          ∙ append-nil (below cmp s a)

      pub front_parted : (t : List (K × Stretch K V)) → t ≡ parted → AreApart cmp (below cmp t a)
      front_parted t is = subst (AreApart cmp) (sym (ap (λ l. below cmp l a) is ∙ below_parted)) (apart_kept cmp _ s apart)

      -- what a cut makes of it
      pub cut_parted : (t u : List (K × Stretch K V)) → t ≡ parted
          → u ≡ outside cmp (Included a) (Excluded b) (before cmp t a ++ not_below cmp t a)
          → IsCut cmp same a b s u × AreApart cmp u × IsWritten cmp same a b None s u
      cut_parted t u is e =
          let left : u ≡ before cmp s a ++ back =
          e ∙ cleared_is cmp o t a b upto
          ∙ ap (λ l. before cmp l a ++ not_below cmp l b) is
          ∙ ap (λ l. map (ended cmp a) l ++ not_below cmp parted b) below_parted
          ∙ ap (λ l. before cmp s a ++ l) not_below_parted in (
            record { rest = rest; is_rest = is_rest; is = left },
            subst (AreApart cmp) (sym left) (cut_apart cmp o s apart a b upto same rest is_rest),
            subst (IsWritten cmp same a b None s) (sym left) (cut_written cmp o s apart a b upto same rest is_rest),
          )

    -- and what a value makes of it that is given to a range
    module _ (a : K) (range : cmp a b ≡ Less) (v : V) where
      abbrev given : Stretch K V
      given = record { end = b; value = v }

      pub parted_list : (t u : List (K × Stretch K V)) → t ≡ parted
          → u ≡ outside cmp (Excluded a) (Excluded b) (before cmp (put cmp t a given) a ++ not_below cmp (put cmp t a given) a)
          → u ≡ before cmp s a ++ (key cmp o t a b range given, given) ∷ back
      parted_list t u is e =
          e ∙ put_cleared cmp o t a b range given
          ∙ ap (λ l. map (ended cmp a) l ++ (key cmp o t a b range given, given) ∷ not_below cmp t b)
          (ap (λ l. below cmp l a) is ∙ below_parted a (ap is_le range))
          ∙ ap (λ l. before cmp s a ++ (key cmp o t a b range given, given) ∷ l) (ap (λ l. not_below cmp l b) is ∙ not_below_parted)

      pub put_parted : (t u : List (K × Stretch K V)) → t ≡ parted
          → u ≡ outside cmp (Excluded a) (Excluded b) (before cmp (put cmp t a given) a ++ not_below cmp (put cmp t a given) a)
          → AreApart cmp u × IsWritten cmp same a b (Some v) s u
      put_parted t u is e =
          put_all cmp o s apart a b (ap is_le range) same rest is_rest range v (key cmp o t a b range given) (at_key cmp o a t) u (parted_list t u is e)
