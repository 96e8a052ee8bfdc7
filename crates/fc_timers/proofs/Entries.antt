-- Facts of lists of timers, in which a timer is found, left out or put.
use Rattle.std.proofs.Common.{◌≡◌, ◌≢◌, ℕ, ◌<◌, Bool, true, false, cond, List, [], ◌∷◌, ◌++◌, Option, Some, None, refl, sym, ap, subst, ◌∙◌, arith}
use Rattle.std.proofs.Math.Dec.{eqb}
use Rattle.std.proofs.lemmas.Bool.{eqb-true, eq-eqb}
use Rattle.std.proofs.lemmas.List.Elements.{filter-append}
use Rattle.std.proofs.lemmas.List.Folds.{find-append}
use Rattle.std.proofs.lemmas.Map.Lookups.{exact_unsigned}
use Rattle.std.specs.Cmp.{IsTotalOrder}
use Rattle.std.specs.Prelude.{◌&&◌, not, unwrap_or}
use Rattle.std.specs.List.{AllByRecursion, filter, find}
use Rattle.std.specs.Option.{option_map, option_or}
use Rattle.std.specs.Ordering.{nat_cmp}
use Rattle.std.specs.declared.cmp.Ordering.{Ordering}
use Rattle.fc_base.specs.Ascending.{IsAscending}
use Rattle.fc_base.specs.OneKey.{put}
use Rattle.fc_base.specs.Parts.{above, at, below}
use Rattle.fc_base.proofs.AscendingFacts.{all_filter, all_map, kept}
use Rattle.fc_base.proofs.Laws.{cut_absent}
use Rattle.fc_timers.specs.declared.timer.Timer.{Timer}
use Rattle.fc_timers.specs.Timers.{by_time_then_turn, found, is_same, timer_of, turn_of, without}
use Rattle.fc_timers.proofs.OfQueue.{both_equal, order_total}
use Rattle.fc_timers.proofs.SameLists.{found_equal, of_found}

-- `is_same` decides whether both are one timer.
pub same_true : (a b : Timer) → is_same a b ≡ true → a ≡ b
same_true a b h = go (eqb a.number b.number) (eqb a.slot b.slot) refl refl h
  where
    go : (p q : Bool) → eqb a.number b.number ≡ p → eqb a.slot b.slot ≡ q → (p && q) ≡ true → a ≡ b
    go true true e f h = let number = eqb-true a.number b.number e in let slot = eqb-true a.slot b.slot f in λ i. record { number = number i; slot = slot i }
    go true false e f h = absurd cc
    go false q e f h = absurd cc

pub same_itself : (a : Timer) → is_same a a ≡ true
same_itself a = rw (eq-eqb a.number a.number refl, eq-eqb a.slot a.slot refl) refl

pub same_is : (a b : Timer) → a ≡ b → is_same a b ≡ true
same_is a b e = ap (is_same a) (sym e) ∙ same_itself a

pub same_false : (a b : Timer) → a ≢ b → is_same a b ≡ false
same_false a b apart = go (is_same a b) refl
  where
    go : (t : Bool) → is_same a b ≡ t → is_same a b ≡ false
    go true e = absurd (apart (same_true a b e))
    go false e = e

module _ {X : Type 0} (p : X → Bool) where
  -- What is found passes, and what is so of all is so of it.
  pub found_passes : (s : List X) (e : X) → find p s ≡ Some e → p e ≡ true
  found_passes [] e h = absurd cc
  found_passes (x ∷ s) e h = go (p x) refl h (found_passes s e)
    where
      go : (b : Bool) → p x ≡ b → cond b (Some x) (find p s) ≡ Some e → (find p s ≡ Some e → p e ≡ true) → p e ≡ true
      go true t h rest = let same : x ≡ e = cc in ap p (sym same) ∙ t
      go false t h rest = rest h

  pub so_of_found : (P : X → Type 0) (s : List X) → AllByRecursion P s → (e : X) → find p s ≡ Some e → P e
  so_of_found P [] a e h = absurd cc
  so_of_found P (x ∷ s) a e h = go (p x) h (so_of_found P s a.1 e)
    where
      go : (b : Bool) → cond b (Some x) (find p s) ≡ Some e → (find p s ≡ Some e → P e) → P e
      go true h rest = let same : x ≡ e = cc in subst P same a.0
      go false h rest = rest h

  -- Nothing is found just where none passes.
  pub none_passes : (s : List X) → find p s ≡ None → AllByRecursion (λ x. p x ≡ false) s
  none_passes [] h = tt
  none_passes (x ∷ s) h = go (p x) refl h (none_passes s)
    where
      go : (b : Bool) → p x ≡ b → cond b (Some x) (find p s) ≡ None → (find p s ≡ None → AllByRecursion (λ x. p x ≡ false) s)
          → (p x ≡ false) × AllByRecursion (λ x. p x ≡ false) s
      go true t h rest = absurd cc
      go false t h rest = (t, rest h)

  pub none_found : (s : List X) → AllByRecursion (λ x. p x ≡ false) s → find p s ≡ None
  none_found [] a = refl
  none_found (x ∷ s) a = ap (λ b. cond b (Some x) (find p s)) a.0 ∙ none_found s a.1

  -- What is found is found among those that pass another test too, if it does.
  pub found_kept : (r : X → Bool) (s : List X) (e : X) → find p s ≡ Some e → r e ≡ true → find p (filter r s) ≡ Some e
  found_kept r [] e h k = absurd cc
  found_kept r (x ∷ s) e h k = go (r x) refl (p x) refl h (λ g. found_kept r s e g k)
    where
      go : (c : Bool) → r x ≡ c → (b : Bool) → p x ≡ b → cond b (Some x) (find p s) ≡ Some e → (find p s ≡ Some e → find p (filter r s) ≡ Some e)
          → find p (cond c (x ∷ filter r s) (filter r s)) ≡ Some e
      go true u true t h rest = ap (λ b. cond b (Some x) (find p (filter r s))) t ∙ h
      go true u false t h rest = ap (λ b. cond b (Some x) (find p (filter r s))) t ∙ rest h
      go false u true t h rest = let same : x ≡ e = cc in let no : true ≡ false = sym k ∙ ap r (sym same) ∙ u in absurd cc
      go false u false t h rest = rest h

module _ {X : Type 0} where
  -- What is so of each that passes is so of all that are kept.
  pub all_out : (P : X → Type 0) (p : X → Bool) (s : List X) → AllByRecursion (λ x. p x ≡ true → P x) s → AllByRecursion P (filter p s)
  all_out P p [] a = tt
  all_out P p (x ∷ s) a = go (p x) refl a.0 (all_out P p s a.1)
    where
      go : (b : Bool) → p x ≡ b → (p x ≡ true → P x) → AllByRecursion P (filter p s) → AllByRecursion P (cond b (x ∷ filter p s) (filter p s))
      go true t f rest = (f t, rest)
      go false t f rest = rest

  pub all_joined : (P : X → Type 0) (s t : List X) → AllByRecursion P s → AllByRecursion P t → AllByRecursion P (s ++ t)
  all_joined P [] t a b = b
  all_joined P (x ∷ s) t a b = (a.0, all_joined P s t a.1 b)

  pub filter_alike : (p q : X → Bool) (s : List X) → AllByRecursion (λ x. p x ≡ q x) s → filter p s ≡ filter q s
  filter_alike p q [] a = refl
  filter_alike p q (x ∷ s) a = ap (λ b. cond b (x ∷ filter p s) (filter p s)) a.0 ∙ ap (λ l. cond (q x) (x ∷ l) l) (filter_alike p q s a.1)

module _ {T V : Type 0} where
  -- Where a timer isn't found there is no entry of it.
  abbrev pub HasNot : Timer → List ((T × ℕ) × (Timer × V)) → Type 0
  HasNot timer s = AllByRecursion (λ e. is_same (timer_of e) timer ≡ false) s

  stays : (timer : Timer) (s : List ((T × ℕ) × (Timer × V))) → HasNot timer s → AllByRecursion (λ e. not (is_same (timer_of e) timer) ≡ true) s
  stays timer s a = all_map _ _ (λ e h. ap not h) s a

  module _ (cmp : T → T → Ordering) where
    -- Nothing stands at a turn that is after all.
    pub nothing_next : (s : List ((T × ℕ) × (Timer × V))) (time : T) (n : ℕ) → AllByRecursion (λ e. turn_of e < n) s
        → at (by_time_then_turn cmp) s (time, n) ≡ None
    nothing_next s time n a = go (at (by_time_then_turn cmp) s (time, n)) refl
      where
        go : (o : Option ((T × ℕ) × (Timer × V))) → at (by_time_then_turn cmp) s (time, n) ≡ o → at (by_time_then_turn cmp) s (time, n) ≡ None
        go None e = e
        go (Some x) e =
            let below : x.0.1 < n = of_found (by_time_then_turn cmp) (λ y. turn_of y < n) s (time, n) x a e in
            let equal = both_equal (cmp x.0.0 time) (nat_cmp x.0.1 n) (found_equal (by_time_then_turn cmp) s (time, n) x e) in
            absurd (omega (arith, below, exact_unsigned x.0.1 n equal.1))

    -- What is put where nothing stands is between what is before it and after it.
    pub put_between : (s : List ((T × ℕ) × (Timer × V))) (k : T × ℕ) (v : Timer × V) → at (by_time_then_turn cmp) s k ≡ None
        → put (by_time_then_turn cmp) s k v ≡ below (by_time_then_turn cmp) s k ++ (k, v) ∷ above (by_time_then_turn cmp) s k
    put_between s k v none =
        ap (λ o. below (by_time_then_turn cmp) s k ++ (unwrap_or (option_map (λ e. e.0) o) k, v) ∷ above (by_time_then_turn cmp) s k) none

    -- Another timer is not found either.
    pub has_not_put : (s : List ((T × ℕ) × (Timer × V))) (k : T × ℕ) (timer : Timer) (value : V) (other : Timer) → HasNot other s → is_same timer other ≡ false
        → HasNot other (put (by_time_then_turn cmp) s k (timer, value))
    has_not_put s k timer value other a differs =
        all_joined _ (below (by_time_then_turn cmp) s k) _ (all_filter _ _ s a) (differs, all_filter _ _ s a)

    module _ (total : IsTotalOrder cmp) (s : List ((T × ℕ) × (Timer × V))) (k : T × ℕ) (timer : Timer) (value : V)
        (ascending : IsAscending (by_time_then_turn cmp) s) (none : at (by_time_then_turn cmp) s k ≡ None) where
      abbrev front : List ((T × ℕ) × (Timer × V))
      front = below (by_time_then_turn cmp) s k

      abbrev back : List ((T × ℕ) × (Timer × V))
      back = above (by_time_then_turn cmp) s k

      -- A timer that is put and left out leaves the list as it was.
      pub without_put : found s timer ≡ None → without (put (by_time_then_turn cmp) s k (timer, value)) timer ≡ s
      without_put new =
          ap (λ l. without l timer) (put_between s k (timer, value) none)
          ∙ filter-append _ front ((k, (timer, value)) ∷ back)
          ∙ ap (λ b. without front timer ++ cond (not b) ((k, (timer, value)) ∷ without back timer) (without back timer)) (same_itself timer)
          ∙ sym (filter-append _ front back)
          ∙ ap (λ l. without l timer) (cut_absent (by_time_then_turn cmp) s k (order_total total) ascending none)
          ∙ kept _ s (stays timer s (none_passes _ s new))

      pub found_put : found s timer ≡ None → found (put (by_time_then_turn cmp) s k (timer, value)) timer ≡ Some (k, (timer, value))
      found_put new =
          ap (λ l. found l timer) (put_between s k (timer, value) none)
          ∙ find-append _ front ((k, (timer, value)) ∷ back)
          ∙ ap (λ o. option_or o (found ((k, (timer, value)) ∷ back) timer)) (none_found _ front (all_filter _ _ s (none_passes _ s new)))
          ∙ ap (λ b. cond b (Some (k, (timer, value))) (found back timer)) (same_itself timer)

      pub found_put_other : (other : Timer) → is_same timer other ≡ false → found (put (by_time_then_turn cmp) s k (timer, value)) other ≡ found s other
      found_put_other other differs =
          ap (λ l. found l other) (put_between s k (timer, value) none)
          ∙ find-append _ front ((k, (timer, value)) ∷ back)
          ∙ ap (λ b. option_or (found front other) (cond b (Some (k, (timer, value))) (found back other))) differs
          ∙ sym (find-append _ front back)
          ∙ ap (λ l. found l other) (cut_absent (by_time_then_turn cmp) s k (order_total total) ascending none)
