-- What stands at a timer, and how it changes where one slot changes.
use Rattle.std.proofs.Common.{◌≡◌, ◌≢◌, ℕ, zero, suc, ◌<◌, ◌≤◌, Bool, true, false, if◌then◌else◌, List, [], ◌∷◌, ◌++◌, length}
use Rattle.std.proofs.Common.{get_or, set, map, Bor, count_by, Option, Some, None, is_some, refl, sym, ap, subst, ◌∙◌, inl, inr, arith}
use Rattle.std.proofs.lemmas.Bool.{cases_eq}
use Rattle.std.proofs.lemmas.List.{get_or-set_same, get_or-set_other, get_or_past, get_or-map, length-map}
use Rattle.std.proofs.lemmas.Cmp.{upto}
use Rattle.std.proofs.lemmas.Option.{slice_get_past, slice_get_read}
use Rattle.std.proofs.Math.Dec.{eqb}
use Rattle.std.proofs.lemmas.Bool.{eqb-true, eq-eqb, ltb-true, ltb-false}
use Rattle.std.specs.Cmp.{IsTotalOrder}
use Rattle.std.specs.List.{slice_get}
use Rattle.std.specs.Slice.{IsItemAt}
use Rattle.std.specs.Option.{option_copied, IfNone, IfSome}
use Rattle.std.specs.Ordering.{is_gt, is_le}
use Rattle.std.specs.declared.cmp.Ordering.{Ordering}
use Rattle.std.specs.declared.cmp.Ordering.TheVariants.{Less, Equal, Greater}
use Rattle.fc_timers.specs.declared.timer.Timer.{Timer}
use Rattle.fc_timers.specs.declared.timer.Armed.{Armed}
use Rattle.fc_timers.specs.declared.slot.Due.{Due}
use Rattle.fc_timers.specs.Slotted.{Slotted, armed, with_number, by_turn, precedes, timer_count, AreGivenOut, HasNone, IsChanged}
use Rattle.fc_timers.specs.Heap.{IsAtMost, IsFirst, IsGivenOut, IsIndexed, IsOrdered, own_due}
use Rattle.fc_timers.proofs.Heaps.{order_top}

module _ {X Y : Type 0} (f : X → Option Y) where
  -- What f gives of the item at a place, as a slice lends it, and nothing after the end.
  pub read_at : (xs : List X) (k : ℕ) (r : Option (Bor X)) (x : Bor X) → IsItemAt xs k r → r ≡ Some x → (k < length xs) × (get_or (map f xs) k None ≡ f x.now)
  read_at xs k None x lent e = absurd cc
  read_at xs k (Some y) x lent e =
      let within : k < length xs = ltb-true k (length xs) (sym lent.0) in
      let same : y ≡ x = cc in
      (within, get_or-map f xs k y.now None within ∙ ap f (sym lent.1) ∙ ap (λ b. f b.now) same)

  pub unread_at : (xs : List X) (k : ℕ) (r : Option (Bor X)) → IsItemAt xs k r → r ≡ None → get_or (map f xs) k None ≡ None
  unread_at xs k None lent e = get_or_past (map f xs) k None (omega (arith, ltb-false k (length xs) (sym lent.0), length-map xs f))
  unread_at xs k (Some y) lent e = absurd cc

-- What a slice lends of a place is what stands there.
pub lent_at : {X : Type 0} (xs : List X) (k : ℕ) (r : Option (Bor X)) → IsItemAt xs k r → option_copied r ≡ slice_get xs k
lent_at xs k None lent = sym (slice_get_past xs k (ltb-false k (length xs) (sym lent.0)))
lent_at xs k (Some y) lent = sym (slice_get_read xs (length xs) k y.now refl (ltb-true k (length xs) (sym lent.0)) lent.1)

module _ {T V : Type 0} where
  -- The timer of a slot, if there is one, has this number.
  abbrev pub HasNumber : ℕ → Option (Armed T V) → Type 0
  HasNumber n h = (a : Armed T V) → h ≡ Some a → a.number ≡ n

  -- A slot that holds no timer has any number.
  pub none_numbered : (n : ℕ) (h : Option (Armed T V)) → h ≡ None → HasNumber n h
  none_numbered n h e a e' = absurd cc

  pub some_numbered : (n : ℕ) (h : Option (Armed T V)) (a : Armed T V) → h ≡ Some a → a.number ≡ n → HasNumber n h
  some_numbered n h a e same b e' = let whole : a ≡ b = cc in ap (λ x. x.number) (sym whole) ∙ same

  own_number : (n : ℕ) (h : Option (Armed T V)) → HasNumber n h → with_number n h ≡ h
  own_number n None has = refl
  own_number n (Some a) has = ap (λ b. if b then Some a else None) (eq-eqb a.number n (has a refl))

  other_number : (n m : ℕ) (h : Option (Armed T V)) → HasNumber n h → m ≢ n → with_number m h ≡ None
  other_number n m None has other = refl
  other_number n m (Some a) has other = by_test (eqb a.number m) refl
    where
      by_test : (t : Bool) → eqb a.number m ≡ t → (if eqb a.number m then Some a else None) ≡ None
      by_test true e = absurd (other (sym (eqb-true a.number m e) ∙ has a refl))
      by_test false e = ap (λ b. if b then Some a else None) e

  with_number_is : (n : ℕ) (h : Option (Armed T V)) (a : Armed T V) → with_number n h ≡ Some a → (h ≡ Some a) × (a.number ≡ n)
  with_number_is n None a e = absurd cc
  with_number_is n (Some b) a e = by_test (eqb b.number n) refl e
    where
      by_test : (t : Bool) → eqb b.number n ≡ t → (if t then Some b else None) ≡ Some a → (Some b ≡ Some a) × (a.number ≡ n)
      by_test true same e = let whole : b ≡ a = cc in (e, ap (λ x. x.number) (sym whole) ∙ eqb-true b.number n same)
      by_test false same e = absurd cc

  -- A timer that stands there is found by its number, and by no other.
  pub number_found : (n : ℕ) (h : Option (Armed T V)) (a : Armed T V) → Some a ≡ h → a.number ≡ n → Some a ≡ with_number n h
  number_found n h a e same = sym (own_number n (Some a) (some_numbered n (Some a) a refl same)) ∙ ap (with_number n) e

  pub number_missed : (n : ℕ) (h : Option (Armed T V)) (a : Armed T V) → Some a ≡ h → a.number ≢ n → None ≡ with_number n h
  number_missed n h a e other = sym (other_number a.number n (Some a) (some_numbered a.number (Some a) a refl refl) (λ same. other (sym same))) ∙ ap
      (with_number n) e

  -- A timer that is in the queue stands in its slot.
  pub in_slot : (q : Slotted T V) (timer : Timer) (a : Armed T V) → armed q timer ≡ Some a
      → (get_or q.slots timer.slot None ≡ Some a) × (a.number ≡ timer.number)
  in_slot q timer a e = with_number_is timer.number (get_or q.slots timer.slot None) a e

  -- What stands in a slot is a timer of the queue.
  pub at_slot : (q : Slotted T V) (k : ℕ) (a : Armed T V) → get_or q.slots k None ≡ Some a → armed q (record { slot = k; number = a.number }) ≡ Some a
  at_slot q k a e = ap (with_number a.number) e ∙ own_number a.number (Some a) (λ b same. let whole : a ≡ b = cc in ap (λ x. x.number) (sym whole))

  -- A slot that has another timer of the same number, or none, changes what stands at that timer alone.
  pub slot_changed : (old new : Slotted T V) (timer : Timer) (now : Option (Armed T V)) → timer.slot < length old.slots
      → new.slots ≡ set old.slots timer.slot now → HasNumber timer.number now → HasNumber timer.number (get_or old.slots timer.slot None)
      → IsChanged old new timer now
  slot_changed old new timer now within written after before = record {
    here = ap (λ s. with_number timer.number (get_or s timer.slot None)) written ∙ ap (with_number timer.number)
        (get_or-set_same old.slots timer.slot now None within) ∙ own_number timer.number now after;
    others = λ other differs. ap (λ s. with_number other.number (get_or s other.slot None)) written ∙ elim (cases_eq other.slot timer.slot) [
      | inl same ↦
          let apart : other.number ≢ timer.number = λ e. differs (λ i. record { slot = same i; number = e i }) in
          ap (with_number other.number) (ap (λ k. get_or (set old.slots timer.slot now) k None) same ∙ get_or-set_same old.slots timer.slot now None within)
          ∙ other_number timer.number other.number now after apart
          ∙ sym (ap (λ k. with_number other.number (get_or old.slots k None)) same ∙ other_number timer.number other.number _ before apart)
      | inr apart ↦ ap (with_number other.number) (get_or-set_other old.slots timer.slot other.slot now None apart)
    ];
  }

  -- What is put in a slot has a number and a turn below m, and a turn from n on.
  abbrev pub IsNext : ℕ → ℕ → Option (Armed T V) → Type 0
  IsNext n m x = (a : Armed T V) → x ≡ Some a → (a.number < m) × (a.turn < m) × (n ≤ a.turn)

  -- Numbers and turns stay below the next one, and turns apart, where a slot changes.
  module _ (h : List (Option (Armed T V))) (k n m : ℕ) (x : Option (Armed T V)) (within : k < length h) (more : n ≤ m) (new : IsNext n m x)
      (old : IsGivenOut h n) where
    put_in : (j : ℕ) (a : Armed T V) → j ≡ k → get_or (set h k x) j None ≡ Some a → x ≡ Some a
    put_in j a same e = sym (get_or-set_same h k x None within) ∙ ap (λ i. get_or (set h k x) i None) (sym same) ∙ e

    left : (j : ℕ) (a : Armed T V) → j ≢ k → get_or (set h k x) j None ≡ Some a → get_or h j None ≡ Some a
    left j a other e = sym (get_or-set_other h k j x None other) ∙ e

    apart : (a b : Armed T V) (j : ℕ) → x ≡ Some a → get_or h j None ≡ Some b → a.turn ≢ b.turn
    apart a b j e f same = let at_least = new a e in let was = old.below j b f in absurd (omega arith)

    pub given_out_set : IsGivenOut (set h k x) m
    given_out_set = record {
      below = λ j a e. elim (cases_eq j k) [
        | inl same ↦ let is = new a (put_in j a same e) in (is.0, is.1)
        | inr other ↦ let was = old.below j a (left j a other e) in (omega arith, omega arith)
      ];
      distinct = λ i j a b e f turns. elim (cases_eq i k) [
        | inl here ↦ elim (cases_eq j k) [
          | inl there ↦ here ∙ sym there
          | inr there ↦ absurd (apart a b j (put_in i a here e) (left j b there f) turns)
        ]
        | inr here ↦ elim (cases_eq j k) [
          | inl there ↦ absurd (apart b a i (put_in j b there f) (left i a here e) (sym turns))
          | inr there ↦ old.distinct i j a b (left i a here e) (left j b there f) turns
        ]
      ];
    }

  -- The timers of a queue have turns that were given out, each one of its own.
  pub are_given_out : (q : Slotted T V) → IsGivenOut q.slots q.next_number → AreGivenOut q
  are_given_out q given = record {
    numbers = λ timer a e. let there = in_slot q timer a e in omega (arith, there.1, (given.below timer.slot a there.0).0);
    turns = λ timer a e. (given.below timer.slot a (in_slot q timer a e).0).1;
    distinct = λ one other a b e f turns.
        let here = in_slot q one a e in
        let there = in_slot q other b f in
        let slot : one.slot ≡ other.slot = given.distinct one.slot other.slot a b here.0 there.0 turns in
        let same : a ≡ b = let both : Some a ≡ Some b = sym here.0 ∙ ap (λ k. get_or q.slots k None) slot ∙ there.0 in cc in
        let number : one.number ≡ other.number = sym here.1 ∙ ap (λ x. x.number) same ∙ there.1 in
        λ i. record { slot = slot i; number = number i };
  }

  pub count_none : (h : List (Option (Armed T V))) → ((k : ℕ) → get_or h k None ≡ None) → count_by is_some h ≡ 0
  count_none [] none = refl
  count_none (None ∷ h) none = count_none h (λ k. none (suc k))
  count_none (Some a ∷ h) none = let first : Some a ≡ None = none 0 in absurd cc

pub get_or_push_none : {X : Type 0} (h : List (Option X)) (k : ℕ) → get_or (h ++ None ∷ []) k None ≡ get_or h k None
get_or_push_none [] zero = refl
get_or_push_none [] (suc k) = refl
get_or_push_none (x ∷ h) zero = refl
get_or_push_none (x ∷ h) (suc k) = get_or_push_none h k

pub not_later : (r : Ordering) → is_gt r ≡ false → is_le r ≡ true
not_later Less e = refl
not_later Equal e = refl
not_later Greater e = absurd cc

not_after : (r : Ordering) (b : Bool) → by_turn r b ≡ true → is_gt r ≡ false
not_after Less b e = refl
not_after Equal b e = refl
not_after Greater b e = absurd cc

module _ {T V : Type 0} {cmp : T → T → Ordering} (o : IsTotalOrder cmp) where
  -- What comes after what is not due is not due.
  pub not_due_after : (a b : Armed T V) (now : T) → precedes cmp a b ≡ true → is_gt (cmp a.at now) ≡ true → is_gt (cmp b.at now) ≡ true
  not_due_after a b now first late = by_test (is_gt (cmp b.at now)) refl
    where
      by_test : (t : Bool) → is_gt (cmp b.at now) ≡ t → is_gt (cmp b.at now) ≡ true
      by_test true e = e
      by_test false e = let early = upto o a.at b.at now (not_after _ _ first) e in absurd cc

  module _ (q : Slotted T V) (due : ℕ → Option (Due T)) (link : ℕ → ℕ) (i : IsIndexed (λ k. get_or q.slots k None) due link)
      (s : IsOrdered cmp due) where
    -- What stands at the first place is due after no timer.
    top_first : (k : ℕ) (a : Armed T V) → get_or q.slots k None ≡ Some a → IsAtMost cmp (due 0) (own_due k (Some a))
    top_first k a held = subst (IsAtMost cmp (due 0)) (i.placed k a held) (order_top o due s (link k) (link k) (omega arith))

    -- Where nothing stands there, no slot holds a timer.
    pub none_held : due 0 ≡ None → (k : ℕ) → get_or q.slots k None ≡ None
    none_held none k = go (get_or q.slots k None) refl
      where
        go : (h : Option (Armed T V)) → get_or q.slots k None ≡ h → get_or q.slots k None ≡ None
        go None e = e
        go (Some a) e = absurd (subst (λ x. IsAtMost cmp x (own_due k (Some a))) none (top_first k a e))

    pub none_stands : due 0 ≡ None → HasNone q × (timer_count q ≡ 0)
    none_stands none = (λ timer. ap (with_number timer.number) (none_held none timer.slot), count_none q.slots (none_held none))

    -- The timer that stands there is the earliest.
    pub first_is : (d : Due T) → due 0 ≡ Some d → IsFirst cmp q d
    first_is d named = by_held (get_or q.slots d.slot None) refl (i.named 0 d named).0
      where
        by_held : (h : Option (Armed T V)) → get_or q.slots d.slot None ≡ h → own_due d.slot h ≡ Some d → IsFirst cmp q d
        by_held None held e = absurd cc
        by_held (Some a) held e =
            let whole : record { at = a.at; turn = a.turn; slot = d.slot } ≡ d = cc in
            let first_of : (k : ℕ) (b : Armed T V) → get_or q.slots k None ≡ Some b → precedes cmp a b ≡ true =
            λ k b there. subst (λ x. IsAtMost cmp x (own_due k (Some b))) (named ∙ sym e) (top_first k b there) in
            record {
              armed = a;
              held = held;
              at = ap (λ x. x.at) whole;
              earliest = record { stands = at_slot q d.slot a held; first = λ other b there. first_of other.slot b (in_slot q other b there).0 };
            }

    -- The same of a reference to what stands there.
    pub top_none : (r : Option (Bor (Due T))) → option_copied r ≡ due 0 → IfNone r (HasNone q × (timer_count q ≡ 0))
    top_none None e = none_stands (sym e)
    top_none (Some d) e = tt

    pub top_some : (r : Option (Bor (Due T))) → option_copied r ≡ due 0 → IfSome r (λ d. IsFirst cmp q d.now)
    top_some None e = tt
    top_some (Some d) e = first_is d.now (sym e)
