-- A queue is one ascending list, which a call makes longer or shorter by one entry.
use Rattle.std.proofs.Common.{◌≡◌, ◌≢◌, ℕ, zero, suc, ◌+◌, Bool, true, false, cond, List, [], ◌∷◌, length, get_or, count_by}
use Rattle.std.proofs.Common.{Option, Some, None, is_some, inl, inr, ◌⊎◌, refl, sym, ap, ◌∙◌, arith}
use Rattle.std.specs.Cmp.{IsTotalOrder}
use Rattle.std.specs.Ordering.{is_eq, ordering_then, nat_cmp}
use Rattle.std.specs.declared.cmp.Ordering.{Ordering}
use Rattle.std.specs.declared.cmp.Ordering.TheVariants.{Less, Equal, Greater}
use Rattle.std.proofs.lemmas.Bool.{cases_eq}
use Rattle.std.proofs.lemmas.Cmp.{nat_cmp_total, on_total, then_total, tied_itself}
use Rattle.std.proofs.lemmas.List.Sums.{sum_by-cons}
use Rattle.std.proofs.lemmas.Map.Lookups.{exact_unsigned}
use Rattle.fc_base.specs.Ascending.{IsAscending}
use Rattle.fc_base.specs.Parts.{at}
use Rattle.fc_base.proofs.Laws.{at_equal, ascending_put, length_put_new}
use Rattle.fc_timers.specs.declared.timer.Timer.{Timer}
use Rattle.fc_timers.specs.declared.timer.Armed.{Armed}
use Rattle.fc_timers.specs.Slotted.{Slotted, armed, IsChanged}
use Rattle.fc_timers.specs.Timers.{by_time_then_turn as order}
use Rattle.fc_timers.specs.InOrder.{entry, in_order, listed, IsListOf}
use Rattle.fc_timers.proofs.SameLists.{at_put_new, found_equal, same_list}
use Rattle.fc_timers.proofs.Standing.{at_slot, in_slot}

pub both_equal : (o p : Ordering) → ordering_then o p ≡ Equal → (o ≡ Equal) × (p ≡ Equal)
both_equal Less p h = absurd cc
both_equal Equal p h = (refl, h)
both_equal Greater p h = absurd cc

pub timer_decided : (one other : Timer) → (one ≡ other) ⊎ (one ≢ other)
timer_decided one other = elim (cases_eq one.slot other.slot) [
  | inl slots ↦ elim (cases_eq one.number other.number) [
    | inl numbers ↦ inl (λ i. record { slot = slots i; number = numbers i })
    | inr apart ↦ inr (λ same. apart (ap (λ t. t.number) same))
  ]
  | inr apart ↦ inr (λ same. apart (ap (λ t. t.slot) same))
]

module _ {T : Type 0} {cmp : T → T → Ordering} (total : IsTotalOrder cmp) where
  pub order_total : IsTotalOrder (order cmp)
  order_total = then_total (on_total (λ t. t.0) total) (on_total (λ t. t.1) nat_cmp_total)

module _ {T : Type 0} (cmp : T → T → Ordering) where
  -- Entries of two turns are apart, whatever their times.
  pub turns_apart : (x y : T × ℕ) → x.1 ≢ y.1 → is_eq (order cmp x y) ≡ false
  turns_apart x y apart = go (order cmp x y) refl
    where
      go : (r : Ordering) → order cmp x y ≡ r → is_eq r ≡ false
      go Less e = refl
      go Equal e = absurd (apart (exact_unsigned x.1 y.1 (both_equal (cmp x.0 y.0) (nat_cmp x.1 y.1) e).1))
      go Greater e = refl

module _ {T V : Type 0} where
  -- No two timers of the queue have one turn.
  abbrev pub AreApart : Slotted T V → Type 0
  AreApart q = (one other : Timer) (a b : Armed T V) → armed q one ≡ Some a → armed q other ≡ Some b → a.turn ≡ b.turn → one ≡ other

  -- Nor do two of so many slots.
  abbrev pub AreSlotsApart : List (Option (Armed T V)) → Type 0
  AreSlotsApart h = (i j : ℕ) (a b : Armed T V) → get_or h i None ≡ Some a → get_or h j None ≡ Some b → a.turn ≡ b.turn → i ≡ j

  pub slots_apart : (q : Slotted T V) → AreApart q → AreSlotsApart q.slots
  slots_apart q apart i j a b e f same = ap (λ t. t.slot) (apart _ _ a b (at_slot q i a e) (at_slot q j b f) same)

  pub rest_apart : (x : Option (Armed T V)) (h : List (Option (Armed T V))) → AreSlotsApart (x ∷ h) → AreSlotsApart h
  rest_apart x h apart i j a b e f same = omega (arith, apart (suc i) (suc j) a b e f same)

  -- The entry of what stands in a slot.
  abbrev slot_entry : ℕ → Armed T V → (T × ℕ) × (Timer × V)
  slot_entry k a = entry (record { slot = k; number = a.number }) a

  abbrev IsOfSlot : ℕ → List (Option (Armed T V)) → (T × ℕ) × (Timer × V) → Type 0
  IsOfSlot k h e = (i : ℕ) × (a : Armed T V) × (get_or h i None ≡ Some a) × (e ≡ slot_entry (k + i) a)

  further : (k : ℕ) (x : Option (Armed T V)) (h : List (Option (Armed T V))) (e : (T × ℕ) × (Timer × V)) → IsOfSlot (k + 1) h e → IsOfSlot k (x ∷ h) e
  further k x h e is = let next : k + 1 + is.0 ≡ k + suc is.0 = omega arith in (suc is.0, is.1, is.2, is.3 ∙ ap (λ j. slot_entry j is.1) next)

module _ {T V : Type 0} {cmp : T → T → Ordering} (total : IsTotalOrder cmp) where
  pub listed_ascends : (k : ℕ) (h : List (Option (Armed T V))) → IsAscending (order cmp) (listed cmp k h)
  listed_ascends k [] = tt
  listed_ascends k (None ∷ h) = listed_ascends (k + 1) h
  listed_ascends k (Some a ∷ h) = ascending_put (order cmp) _ _ _ (order_total total) (listed_ascends (k + 1) h)

  pub none_at : (k : ℕ) (a : Armed T V) (h : List (Option (Armed T V))) → AreSlotsApart (Some a ∷ h)
      → ((x : T × ℕ) (e : (T × ℕ) × (Timer × V)) → at (order cmp) (listed cmp (k + 1) h) x ≡ Some e → IsOfSlot (k + 1) h e)
      → at (order cmp) (listed cmp (k + 1) h) (a.at, a.turn) ≡ None
  none_at k a h apart each = go (at (order cmp) (listed cmp (k + 1) h) (a.at, a.turn)) refl
    where
      go : (o : Option ((T × ℕ) × (Timer × V))) → at (order cmp) (listed cmp (k + 1) h) (a.at, a.turn) ≡ o
          → at (order cmp) (listed cmp (k + 1) h) (a.at, a.turn) ≡ None
      go None e = e
      go (Some x) e =
          let is = each (a.at, a.turn) x e in
          let equal = both_equal (cmp x.0.0 a.at) (nat_cmp x.0.1 a.turn) (found_equal (order cmp) (listed cmp (k + 1) h) (a.at, a.turn) x e) in
          let turn : a.turn ≡ is.1.turn = sym (exact_unsigned x.0.1 a.turn equal.1) ∙ ap (λ y. y.0.1) is.3 in
          let same : 0 ≡ suc is.0 = apart 0 (suc is.0) a is.1 refl is.2 turn in
          absurd (omega arith)

  pub each_listed : (k : ℕ) (h : List (Option (Armed T V))) → AreSlotsApart h → (x : T × ℕ) (e : (T × ℕ) × (Timer × V))
      → at (order cmp) (listed cmp k h) x ≡ Some e → IsOfSlot k h e
  each_listed k [] apart x e found = absurd cc
  each_listed k (None ∷ h) apart x e found = further k None h e (each_listed (k + 1) h (rest_apart None h apart) x e found)
  each_listed k (Some a ∷ h) apart x e found =
      go (is_eq (order cmp (a.at, a.turn) x))
      (sym (at_put_new (order cmp) (order_total total) (listed cmp (k + 1) h) (a.at, a.turn) _ x
      (none_at k a h apart (each_listed (k + 1) h (rest_apart (Some a) h apart))))
      ∙ found)
      (each_listed (k + 1) h (rest_apart (Some a) h apart) x e)
    where
      go : (b : Bool) → cond b (Some (slot_entry k a)) (at (order cmp) (listed cmp (k + 1) h) x) ≡ Some e
          → (at (order cmp) (listed cmp (k + 1) h) x ≡ Some e → IsOfSlot (k + 1) h e) → IsOfSlot k (Some a ∷ h) e
      go true f rest =
          let same : slot_entry k a ≡ e = cc in
          let none : k ≡ k + 0 = omega arith in
          (0, a, refl, sym same ∙ ap (λ j. slot_entry j a) none)
      go false f rest = further k (Some a) h e (rest f)

  -- What stands at each time and turn once a slot is listed before others.
  listed_before : (k : ℕ) (a : Armed T V) (h : List (Option (Armed T V))) → AreSlotsApart (Some a ∷ h) → (x : T × ℕ)
      → at (order cmp) (listed cmp k (Some a ∷ h)) x
      ≡ cond (is_eq (order cmp (a.at, a.turn) x)) (Some (slot_entry k a)) (at (order cmp) (listed cmp (k + 1) h) x)
  listed_before k a h apart x =
      at_put_new (order cmp) (order_total total) (listed cmp (k + 1) h) (a.at, a.turn) _ x
      (none_at k a h apart (each_listed (k + 1) h (rest_apart (Some a) h apart)))

  all_listed : (k : ℕ) (h : List (Option (Armed T V))) → AreSlotsApart h → (i : ℕ) (a : Armed T V) → get_or h i None ≡ Some a
      → at (order cmp) (listed cmp k h) (a.at, a.turn) ≡ Some (slot_entry (k + i) a)
  all_listed k [] apart i a e = absurd cc
  all_listed k (None ∷ h) apart zero a e = absurd cc
  all_listed k (None ∷ h) apart (suc i) a e =
      let next : k + 1 + i ≡ k + suc i = omega arith in
      all_listed (k + 1) h (rest_apart None h apart) i a e ∙ ap (λ j. Some (slot_entry j a)) next
  all_listed k (Some b ∷ h) apart zero a e =
      let same : b ≡ a = cc in
      let none : k ≡ k + 0 = omega arith in
      ap (λ c. at (order cmp) (listed cmp k (Some b ∷ h)) (c.at, c.turn)) (sym same) ∙ listed_before k b h apart (b.at, b.turn)
      ∙ ap (λ r. cond (is_eq r) (Some (slot_entry k b)) (at (order cmp) (listed cmp (k + 1) h) (b.at, b.turn))) (tied_itself (order_total total) (b.at, b.turn))
      ∙ (λ i. Some (slot_entry (none i) (same i)))
  all_listed k (Some b ∷ h) apart (suc i) a e =
      let next : k + 1 + i ≡ k + suc i = omega arith in
      let other : b.turn ≢ a.turn = λ same. let no : 0 ≡ suc i = apart 0 (suc i) b a refl e same in absurd (omega arith) in
      listed_before k b h apart (a.at, a.turn)
      ∙ ap (λ t. cond t (Some (slot_entry k b)) (at (order cmp) (listed cmp (k + 1) h) (a.at, a.turn))) (turns_apart cmp (b.at, b.turn) (a.at, a.turn) other)
      ∙ all_listed (k + 1) h (rest_apart (Some b) h apart) i a e ∙ ap (λ j. Some (slot_entry j a)) next

  pub listed_length : (k : ℕ) (h : List (Option (Armed T V))) → AreSlotsApart h → length (listed cmp k h) ≡ count_by is_some h
  listed_length k [] apart = refl
  listed_length k (None ∷ h) apart =
      let rest = listed_length (k + 1) h (rest_apart None h apart) in
      let counted = sum_by-cons (λ o. cond (is_some o) 1 0) None h in
      omega (arith, rest, counted)
  listed_length k (Some a ∷ h) apart =
      let more = length_put_new (order cmp) (listed cmp (k + 1) h) (a.at, a.turn) (record { slot = k; number = a.number }, a.value) (order_total total)
      (listed_ascends (k + 1) h) (none_at k a h apart (each_listed (k + 1) h (rest_apart (Some a) h apart))) in
      let rest = listed_length (k + 1) h (rest_apart (Some a) h apart) in
      let counted = sum_by-cons (λ o. cond (is_some o) 1 0) (Some a) h in
      omega (arith, more, rest, counted)

  pub is_list : (q : Slotted T V) → AreApart q → IsListOf cmp q (in_order cmp q)
  is_list q apart = record {
    ascending = listed_ascends 0 q.slots;
    each = λ k e found.
        let is = each_listed 0 q.slots (slots_apart q apart) k e found in
        let slot : 0 + is.0 ≡ is.0 = omega arith in
        let same : e ≡ slot_entry is.0 is.1 = is.3 ∙ ap (λ j. slot_entry j is.1) slot in
        (is.1, ap (λ x. armed q x.1.0) same ∙ at_slot q is.0 is.1 is.2, same ∙ ap (λ x. entry x.1.0 is.1) (sym same));
    all = λ timer a stands.
        let there = in_slot q timer a stands in
        let slot : 0 + timer.slot ≡ timer.slot = omega arith in
        all_listed 0 q.slots (slots_apart q apart) timer.slot a there.0
        ∙ (λ i. Some (entry (record { slot = slot i; number = there.1 i }) a));
  }

  -- A queue is one list alone.
  pub one_list : (q : Slotted T V) (s t : List ((T × ℕ) × (Timer × V))) → IsListOf cmp q s → IsListOf cmp q t → s ≡ t
  one_list q s t one other = same_list (order cmp) (order_total total) s t one.ascending other.ascending at_each
    where
      found : (s t : List ((T × ℕ) × (Timer × V))) → IsListOf cmp q s → IsListOf cmp q t → (k : T × ℕ) (e : (T × ℕ) × (Timer × V)) → at (order cmp) s k ≡ Some e
          → at (order cmp) t k ≡ Some e
      found s t one other k e there =
          let is = one.each k e there in
          sym (at_equal (order cmp) t k e.0 (order_total total) (found_equal (order cmp) s k e there))
          ∙ ap (λ x. at (order cmp) t x.0) is.2 ∙ other.all e.1.0 is.0 is.1 ∙ ap Some (sym is.2)

      at_each : (k : T × ℕ) → at (order cmp) s k ≡ at (order cmp) t k
      at_each k = go (at (order cmp) s k) (at (order cmp) t k) refl refl
        where
          go : (o p : Option ((T × ℕ) × (Timer × V))) → at (order cmp) s k ≡ o → at (order cmp) t k ≡ p → at (order cmp) s k ≡ at (order cmp) t k
          go None None e f = e ∙ sym f
          go (Some x) p e f = e ∙ sym (found s t one other k x e)
          go None (Some y) e f = found t s other one k y f ∙ sym f

  -- A list with the entry of one timer more.
  module _ (q more : Slotted T V) (timer : Timer) (a : Armed T V) (put_in : IsChanged q more timer (Some a)) (none : armed q timer ≡ None)
      (fresh : (other : Timer) (b : Armed T V) → armed q other ≡ Some b → a.turn ≢ b.turn) (s t : List ((T × ℕ) × (Timer × V))) (of : IsListOf cmp q s)
      (ascends : IsAscending (order cmp) t)
      (at_each : (k : T × ℕ) → at (order cmp) t k ≡ cond (is_eq (order cmp (a.at, a.turn) k)) (Some (entry timer a)) (at (order cmp) s k)) where
    each_of : (k : T × ℕ) (e : (T × ℕ) × (Timer × V)) (b : Bool) → cond b (Some (entry timer a)) (at (order cmp) s k) ≡ Some e
        → (c : Armed T V) × (armed more e.1.0 ≡ Some c) × (e ≡ entry e.1.0 c)
    each_of k e true h =
        let same : entry timer a ≡ e = cc in
        (a, ap (λ x. armed more x.1.0) (sym same) ∙ put_in.here, sym same ∙ ap (λ x. entry x.1.0 a) same)
    each_of k e false h =
        let was = of.each k e h in
        let other : e.1.0 ≢ timer = λ same. let no : None ≡ Some was.0 = sym none ∙ ap (armed q) (sym same) ∙ was.1 in absurd cc in
        (was.0, put_in.others e.1.0 other ∙ was.1, was.2)

    all_of : (other : Timer) (b : Armed T V) → armed more other ≡ Some b → at (order cmp) t (b.at, b.turn) ≡ Some (entry other b)
    all_of other b stands = elim (timer_decided other timer) [
      | inl same ↦
          let whole : a ≡ b = let two : Some a ≡ Some b = sym put_in.here ∙ ap (armed more) (sym same) ∙ stands in cc in
          ap (λ c. at (order cmp) t (c.at, c.turn)) (sym whole) ∙ at_each (a.at, a.turn)
          ∙ ap (λ r. cond (is_eq r) (Some (entry timer a)) (at (order cmp) s (a.at, a.turn))) (tied_itself (order_total total) (a.at, a.turn))
          ∙ (λ i. Some (entry (sym same i) (whole i)))
      | inr apart ↦
          let was : armed q other ≡ Some b = sym (put_in.others other apart) ∙ stands in
          at_each (b.at, b.turn)
          ∙ ap (λ x. cond x (Some (entry timer a)) (at (order cmp) s (b.at, b.turn))) (turns_apart cmp (a.at, a.turn) (b.at, b.turn) (fresh other b was))
          ∙ of.all other b was
    ]

    pub list_with : IsListOf cmp more t
    list_with = record {
      ascending = ascends;
      each = λ k e h. each_of k e (is_eq (order cmp (a.at, a.turn) k)) (sym (at_each k) ∙ h);
      all = all_of;
    }
