-- A value that is written at a timer, in the slots and in the list.
use Rattle.std.proofs.Common.{◌≡◌, ◌≢◌, ℕ, zero, suc, ◌+◌, ◌<◌, Bool, true, false, if◌then◌else◌, List, [], ◌∷◌, length, get_or, set, Option, Some, None}
use Rattle.std.proofs.Common.{Bor, Result, Ok, Err, refl, sym, ap, ◌∙◌, arith}
use Rattle.std.proofs.lemmas.Slice.Zip.{AllZip-map}
use Rattle.std.specs.Cmp.{IsTotalOrder}
use Rattle.std.specs.Option.{option_copied, option_map}
use Rattle.std.specs.Prelude.{IfOk, OnOk, OnErr, ⊤}
use Rattle.std.specs.List.{AllZip}
use Rattle.std.specs.declared.cmp.Ordering.{Ordering}
use Rattle.fc_base.specs.Copies.{SameContents}
use Rattle.fc_timers.specs.declared.timer.Timer.{Timer}
use Rattle.fc_timers.specs.declared.timer.Armed.{Armed}
use Rattle.fc_timers.specs.declared.slot.Slot.{Slot}
use Rattle.fc_timers.specs.CopiedSlots.{SameArmed, SameSlot}
use Rattle.fc_timers.specs.InOrder.{entry, in_order, listed}
use Rattle.fc_timers.specs.Slotted.{AreGivenOut, Slotted, armed}
use Rattle.fc_timers.specs.Timers.{found, is_same, timer_of, value_of}
use Rattle.fc_timers.specs.Values.{valued, with_value}
use Rattle.fc_timers.proofs.Calls.{found_in_order}
use Rattle.fc_timers.proofs.Entries.{same_false, same_is}
use Rattle.fc_timers.proofs.ListCopies.{ArePaired, listed_paired}
use Rattle.fc_timers.proofs.Standing.{in_slot}

module _ {T V : Type 0} where
  same_held : (h : Option (Armed T V)) → SameContents (SameArmed (λ _ _. ⊤)) h h
  same_held None = tt
  same_held (Some a) = (refl, refl, refl, tt)

  all_same : (slots : List (Slot T V)) → AllZip (SameSlot (λ _ _. ⊤)) slots slots
  all_same [] = tt
  all_same (s ∷ slots) = ((same_held s.held, refl), all_same slots)

  -- Slots of which one has another value are the same but for values.
  pub same_but_one : (slots : List (Slot T V)) (k : ℕ) (d s : Slot T V) → k < length slots → SameSlot (λ _ _. ⊤) (get_or slots k d) s
      → AllZip (SameSlot (λ _ _. ⊤)) slots (set slots k s)
  same_but_one [] k d s within is = absurd (omega (arith, within))
  same_but_one (x ∷ slots) zero d s within is = (is, all_same slots)
  same_but_one (x ∷ slots) (suc k) d s within is = ((same_held x.held, refl), same_but_one slots k d s (omega (arith, within)) is)

  -- What a call lends of a timer stands at it, in its slot.
  pub lent_there : (q : Slotted T V) (timer : Timer) (r : Option (Bor (Armed T V))) (a : Bor (Armed T V)) → option_copied r ≡ armed q timer → r ≡ Some a
      → (armed q timer ≡ Some a.now) × (get_or q.slots timer.slot None ≡ Some a.now)
  lent_there q timer r a told is =
      let stands : armed q timer ≡ Some a.now = sym told ∙ ap option_copied is in
      (stands, (in_slot q timer a.now stands).0)

module _ {T V : Type 0} (timer : Timer) (value : V) where
  -- The entry with this value, where it is the timer's.
  abbrev pub written : (T × ℕ) × (Timer × V) → (T × ℕ) × (Timer × V)
  written e = if is_same (timer_of e) timer then (e.0, (timer_of e, value)) else e

  written_at : (e : (T × ℕ) × (Timer × V)) → timer_of e ≡ timer → (e.0, (timer_of e, value)) ≡ written e
  written_at e is = sym (ap (λ b. if b then (e.0, (timer_of e, value)) else e) (same_is (timer_of e) timer is))

  other_stays : (e : (T × ℕ) × (Timer × V)) → timer_of e ≢ timer → e ≡ written e
  other_stays e other = sym (ap (λ b. if b then (e.0, (timer_of e, value)) else e) (same_false (timer_of e) timer other))

  same_key : (x y : (T × ℕ) × (Timer × V)) → y ≡ written x → y.0 ≡ x.0
  same_key x y is = ap (λ e. e.0) is ∙ go (is_same (timer_of x) timer)
    where
      go : (b : Bool) → (if b then (x.0, (timer_of x, value)) else x).0 ≡ x.0
      go true = refl
      go false = refl

  module _ (cmp : T → T → Ordering) where
    others : (k : ℕ) (h : List (Option (Armed T V))) → timer.slot < k → ArePaired (λ x y. y ≡ written x) same_key cmp k h h
    others k [] past = tt
    others k (None ∷ h) past = others (k + 1) h (omega (arith, past))
    others k (Some a ∷ h) past =
        (refl, refl, (λ j. other_stays _ (λ same. omega (arith, past, ap (λ (t : Timer). t.slot) same))), others (k + 1) h (omega (arith, past)))

    one : (k i : ℕ) (h : List (Option (Armed T V))) (a : Armed T V) → timer.slot ≡ k + i → a.number ≡ timer.number → get_or h i None ≡ Some a
        → ArePaired (λ x y. y ≡ written x) same_key cmp k h (set h i (Some (record a { value = value })))
    one k i [] a slot number is = absurd cc
    one k zero (None ∷ h) a slot number is = absurd cc
    one k zero (Some b ∷ h) a slot number is =
        let whole : a ≡ b = cc in
        let here : k ≡ timer.slot = omega (arith, slot) in
        let same : b.number ≡ timer.number = ap (λ (x : Armed T V). x.number) (sym whole) ∙ number in
        let names : record { slot = k; number = b.number } ≡ timer = λ i. record { slot = here i; number = same i } in (
          ap (λ (x : Armed T V). x.at) whole,
          ap (λ (x : Armed T V). x.turn) whole,
          (λ j. (λ i. (j, (record { slot = k; number = ap (λ (x : Armed T V). x.number) whole i }, value))) ∙ written_at _ names),
          others (k + 1) h (omega (arith, slot)),
        )
    one k (suc i) (None ∷ h) a slot number is = one (k + 1) i h a (omega (arith, slot)) number is
    one k (suc i) (Some b ∷ h) a slot number is = (
      refl,
      refl,
      (λ j. other_stays _ (λ same. omega (arith, slot, ap (λ (t : Timer). t.slot) same))),
      one (k + 1) i h a (omega (arith, slot)) number is,
    )

    -- The list has that value at the timer.
    pub list_written : (q new : Slotted T V) (a : Armed T V) → armed q timer ≡ Some a → new.slots ≡ set q.slots timer.slot (valued value (armed q timer))
        → in_order cmp new ≡ with_value (in_order cmp q) timer value
    list_written q new a stands slots =
        let there = in_slot q timer a stands in
        let is : new.slots ≡ set q.slots timer.slot (Some (record a { value = value })) =
        slots ∙ ap (λ o. set q.slots timer.slot (valued value o)) stands in
        ap (listed cmp 0) is
        ∙ AllZip-map written _ _ (listed_paired (λ x y. y ≡ written x) same_key cmp 0 q.slots _
        (one 0 timer.slot q.slots a (omega arith) there.1 there.0))

had : {T V : Type 0} (o : Option (Armed T V)) (was : V) → option_map (λ a. a.value) o ≡ Some was → (a : Armed T V) × (o ≡ Some a)
had None was h = absurd cc
had (Some a) was h = (a, refl)

value_told : {T V : Type 0} (timer : Timer) (o : Option (Armed T V)) → option_map value_of (option_map (entry timer) o) ≡ option_map (λ a. a.value) o
value_told timer None = refl
value_told timer (Some a) = refl

module _ {T V : Type 0} (cmp : T → T → Ordering) (total : IsTotalOrder cmp) (q : Slotted T V) (given : AreGivenOut q) (timer : Timer) where
  -- The clauses of the call, of which r is the answer.
  pub value_was : {E : Type 0} (r : Result V E) → IfOk r (λ was. option_map (λ a. a.value) (armed q timer) ≡ Some was)
      → IfOk r (λ was. option_map value_of (found (in_order cmp q) timer) ≡ Some was)
  value_was (Ok was) answer = ap (option_map value_of) (found_in_order cmp total q timer given) ∙ value_told timer (armed q timer) ∙ answer
  value_was (Err e) answer = tt

  pub list_with_value : {E : Type 0} (new : Slotted T V) (value : V) (r : Result V E) → IfOk r (λ was. option_map (λ a. a.value) (armed q timer) ≡ Some was)
      → OnOk r (new.slots ≡ set q.slots timer.slot (valued value (armed q timer))) → OnOk r (in_order cmp new ≡ with_value (in_order cmp q) timer value)
  list_with_value new value (Ok was) answer slots =
      let there = had (armed q timer) was answer in
      list_written timer value cmp q new there.0 there.1 slots
  list_with_value new value (Err e) answer slots = tt

  pub none_of_value : {E : Type 0} (r : Result V E) → OnErr r (armed q timer ≡ None) → OnErr r (found (in_order cmp q) timer ≡ None)
  none_of_value (Ok was) refused = tt
  none_of_value (Err e) refused = found_in_order cmp total q timer given ∙ ap (option_map (entry timer)) refused
