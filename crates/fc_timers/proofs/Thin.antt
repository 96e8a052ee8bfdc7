-- What the calls of the slots say of their timers, said of the list.
use Rattle.std.proofs.Common.{◌≡◌, ℕ, ◌+◌, List, [], ◌∷◌, length, Option, Some, None, Result, Ok, Err, Bor, is_some, ◌⊎◌, inl, inr}
use Rattle.std.proofs.Common.{refl, sym, ap, subst, ◌∙◌, arith}
use Rattle.std.specs.Cmp.{IsTotalOrder}
use Rattle.std.specs.Option.{IfNone, IfSome, option_copied, option_map}
use Rattle.std.specs.Prelude.{not, slice_get, IfOk, OnOk, OnErr}
use Rattle.std.specs.declared.cmp.Ordering.{Ordering}
use Rattle.fc_base.specs.OneKey.{put}
use Rattle.fc_base.proofs.AscendingFacts.{all_map, kept}
use Rattle.fc_timers.specs.declared.timer.Timer.{Timer}
use Rattle.fc_timers.specs.declared.timer.Armed.{Armed}
use Rattle.fc_timers.specs.Slotted.{AreGivenOut, HasNone, IsChanged, IsEarliest, NoneDue as NoneOfSlotsDue, Slotted, armed, newly, renewed, timer_count}
use Rattle.fc_timers.specs.Timers.{NoneDue, by_time_then_turn, found, time_of, value_of, without}
use Rattle.fc_timers.specs.InOrder.{entry, in_order}
use Rattle.fc_timers.proofs.Calls.{earliest_is_head, found_in_order, given_inserted, given_renewed, in_order_inserted, in_order_rescheduled}
use Rattle.fc_timers.proofs.Calls.{length_in_order, none_due_in_order}
use Rattle.fc_timers.proofs.Entries.{none_passes}

fused : {X Y Z : Type 0} (f : Y → Z) (g : X → Y) (o : Option X) → option_map f (option_map g o) ≡ option_map (λ x. f (g x)) o
fused f g None = refl
fused f g (Some x) = refl

some_mapped : {X Y : Type 0} (g : X → Y) (o : Option X) → is_some (option_map g o) ≡ is_some o
some_mapped g None = refl
some_mapped g (Some x) = refl

no_length : {X : Type 0} (s : List X) → length s ≡ 0 → s ≡ []
no_length [] h = refl
no_length (x ∷ s) h = absurd (omega (arith, h))

module _ {T V : Type 0} (cmp : T → T → Ordering) (total : IsTotalOrder cmp) (q : Slotted T V) (given : AreGivenOut q) where
  pub contained : (timer : Timer) → is_some (found (in_order cmp q) timer) ≡ is_some (armed q timer)
  contained timer = ap is_some (found_in_order cmp total q timer given) ∙ some_mapped (entry timer) (armed q timer)

  told : (timer : Timer)
      → option_map {U = T × V} (λ e. (time_of e, value_of e)) (found (in_order cmp q) timer) ≡ option_map {U = T × V} (λ a. (a.at, a.value)) (armed q timer)
  told timer =
      let f : (T × ℕ) × (Timer × V) → T × V = λ e. (time_of e, value_of e) in
      ap (option_map f) (found_in_order cmp total q timer given) ∙ fused f (entry timer) (armed q timer)

  pub told_as : (timer : Timer) (o : Option (Armed T V)) → o ≡ armed q timer
      → option_map {U = T × V} (λ a. (a.at, a.value)) o ≡ option_map {U = T × V} (λ e. (time_of e, value_of e)) (found (in_order cmp q) timer)
  told_as timer o is = ap (option_map {U = T × V} (λ a. (a.at, a.value))) is ∙ sym (told timer)

  pub time_told : (timer : Timer) → option_map time_of (found (in_order cmp q) timer) ≡ option_map (λ a. a.at) (armed q timer)
  time_told timer = ap (option_map _) (found_in_order cmp total q timer given) ∙ fused _ (entry timer) (armed q timer)

  pub none_told : (timer : Timer) → armed q timer ≡ None → found (in_order cmp q) timer ≡ None
  none_told timer none = found_in_order cmp total q timer given ∙ ap (option_map (entry timer)) none

  -- A timer that is not in the queue leaves the list as it is.
  pub without_none : (timer : Timer) → armed q timer ≡ None → in_order cmp q ≡ without (in_order cmp q) timer
  without_none timer none =
      sym (kept _ (in_order cmp q) (all_map _ _ (λ e h. ap not h) (in_order cmp q) (none_passes _ (in_order cmp q) (none_told timer none))))

  pub no_timers : timer_count q ≡ 0 → in_order cmp q ≡ []
  no_timers none = no_length (in_order cmp q) (length_in_order cmp total q given ∙ none)

  -- What is answered of the earliest timer is what the head of the list has.
  pub head_time : (r : Option (Bor T)) → IfNone r (HasNone q × (timer_count q ≡ 0))
      → IfSome r (λ at. (timer : Timer) × (a : Armed T V) × (at.now ≡ a.at) × IsEarliest cmp q timer a)
      → option_copied r ≡ option_map time_of (slice_get (in_order cmp q) 0)
  head_time None none some = sym (ap (λ s. option_map time_of (slice_get s 0)) (no_timers none.1))
  head_time (Some at) none some =
      ap Some some.2 ∙ sym (ap (λ s. option_map time_of (slice_get s 0)) (earliest_is_head cmp total q some.0 some.1 given some.3))

  pub head_due : (r : Option (Timer × Bor T × Bor V))
      → IfSome r (λ f. (a : Armed T V) × (f.1.now ≡ a.at) × (f.2.now ≡ a.value) × IsEarliest cmp q f.0 a)
      → IfSome r (λ f. (turn : ℕ) × (slice_get (in_order cmp q) 0 ≡ Some ((f.1.now, turn), (f.0, f.2.now))))
  head_due None some = tt
  head_due (Some f) some = (
    some.0.turn,
    ap (λ s. slice_get s 0) (earliest_is_head cmp total q f.0 some.0 given some.3) ∙ (λ i. Some ((sym some.1 i, some.0.turn), (f.0, sym some.2 i))),
  )

  pub none_due : {R : Type 0} (r : Option R) (now : T) → IfNone r (NoneOfSlotsDue cmp q now) → IfNone r (NoneDue cmp (in_order cmp q) now)
  none_due None now none = none_due_in_order cmp total q now given none
  none_due (Some x) now none = tt

stands : {T V : Type 0} (was : T) (o : Option (Armed T V)) → option_map (λ a. a.at) o ≡ Some was → (a : Armed T V) × (o ≡ Some a)
stands was None h = absurd cc
stands was (Some a) h = (a, refl)

module _ {T V : Type 0} (cmp : T → T → Ordering) (total : IsTotalOrder cmp) (old new : Slotted T V) (given : AreGivenOut old) where
  -- The clauses of an insertion, of which r is the answer.
  module _ {E : Type 0} (r : Result Timer E) (time : T) (value : V) (changed : IfOk r (λ timer. IsChanged old new timer (Some (newly old time value)))) where
    pub given_after_insertion : IfOk r (λ timer. timer.number ≡ old.next_number) → OnOk r (new.next_number ≡ old.next_number + 1) → OnErr r (new ≡ old)
        → AreGivenOut new
    given_after_insertion number next same = go r changed number next same
      where
        go : (r : Result Timer E) → IfOk r (λ timer. IsChanged old new timer (Some (newly old time value))) → IfOk r (λ timer. timer.number ≡ old.next_number)
            → OnOk r (new.next_number ≡ old.next_number + 1) → OnErr r (new ≡ old) → AreGivenOut new
        go (Ok timer) changed number next same = given_inserted old new timer time value given changed number next
        go (Err e) changed number next same = subst AreGivenOut (sym same) given

    pub list_after_insertion : IfOk r (λ timer. armed old timer ≡ None)
        → IfOk r (λ timer. in_order cmp new ≡ put (by_time_then_turn cmp) (in_order cmp old) (time, old.next_number) (timer, value))
    list_after_insertion fresh = go r changed fresh
      where
        go : (r : Result Timer E) → IfOk r (λ timer. IsChanged old new timer (Some (newly old time value))) → IfOk r (λ timer. armed old timer ≡ None)
            → IfOk r (λ timer. in_order cmp new ≡ put (by_time_then_turn cmp) (in_order cmp old) (time, old.next_number) (timer, value))
        go (Ok timer) changed fresh = in_order_inserted cmp total old new timer time value given fresh changed
        go (Err e) changed fresh = tt

  pub fresh_in_list : {E : Type 0} (r : Result Timer E) → IfOk r (λ timer. armed old timer ≡ None) → IfOk r (λ timer. found (in_order cmp old) timer ≡ None)
  fresh_in_list (Ok timer) fresh = none_told cmp total old given timer fresh
  fresh_in_list (Err e) fresh = tt

  -- The clauses of a rescheduling, of which r is the answer.
  module _ {E : Type 0} (timer : Timer) (time : T) where
    abbrev pub Answers : Result T E → Type 0
    Answers r = IfOk r (λ was. option_map (λ a. a.at) (armed old timer) ≡ Some was)

    abbrev pub Moves : Result T E → Type 0
    Moves r = OnOk r (IsChanged old new timer (renewed time old.next_number (armed old timer)))

    pub given_after_move : (r : Result T E) → Answers r → Moves r → OnOk r (new.next_number ≡ old.next_number + 1) → OnErr r (new ≡ old) → AreGivenOut new
    given_after_move (Ok was) answer moved next same =
        let there = stands was (armed old timer) answer in
        given_renewed old new timer there.0 time given there.1 moved next
    given_after_move (Err e) answer moved next same = subst AreGivenOut (sym same) given

    pub time_after_move : (r : Result T E) → Answers r → IfOk r (λ was. option_map time_of (found (in_order cmp old) timer) ≡ Some was)
    time_after_move (Ok was) answer = time_told cmp total old given timer ∙ answer
    time_after_move (Err e) answer = tt

    pub list_after_move : (r : Result T E) → Answers r → Moves r
        → OnOk r (option_map (λ e. put (by_time_then_turn cmp) (without (in_order cmp old) timer) (time, old.next_number) (timer, value_of e))
        (found (in_order cmp old) timer)
        ≡ Some (in_order cmp new))
    list_after_move (Ok was) answer moved =
        let there = stands was (armed old timer) answer in
        ap (option_map _) (found_in_order cmp total old timer given ∙ ap (option_map (entry timer)) there.1)
        ∙ ap Some (sym (in_order_rescheduled cmp total old new timer there.0 time given there.1 moved))
    list_after_move (Err e) answer moved = tt

    pub refused_move : (P : Type 0) (r : Result T E) → OnErr r ((armed old timer ≡ None) ⊎ P) → OnErr r ((found (in_order cmp old) timer ≡ None) ⊎ P)
    refused_move P (Ok was) refused = tt
    refused_move P (Err e) refused = elim refused [ inl none ↦ inl (none_told cmp total old given timer none) | inr used ↦ inr used ]
