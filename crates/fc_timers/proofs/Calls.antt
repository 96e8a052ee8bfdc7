-- What a call makes of the list of the timers in the slots.
use Rattle.std.proofs.Common.{◌≡◌, ◌≢◌, ℕ, ◌<◌, ◌≤◌, ◌+◌, true, false, ◌∷◌, length, set, Option}
use Rattle.std.proofs.Common.{Some, None, inl, inr, refl, sym, ap, ◌∙◌, arith}
use Rattle.std.specs.Prelude.{leb}
use Rattle.std.proofs.lemmas.Bool.{leb-true}
use Rattle.std.specs.Cmp.{IsTotalOrder, nat_cmp_is}
use Rattle.std.specs.List.{AllByRecursion}
use Rattle.std.specs.Option.{option_map}
use Rattle.std.specs.Ordering.{is_gt, nat_cmp, ordering_then}
use Rattle.std.specs.declared.cmp.Ordering.{Ordering}
use Rattle.std.specs.declared.cmp.Ordering.TheVariants.{Less, Equal, Greater}
use Rattle.std.proofs.lemmas.Map.Lookups.{exact_unsigned}
use Rattle.std.proofs.lemmas.List.Elements.{All-from_recursion}
use Rattle.fc_base.specs.OneKey.{put}
use Rattle.fc_base.specs.Parts.{at}
use Rattle.fc_base.proofs.Laws.{ascending_put}
use Rattle.fc_timers.specs.declared.timer.Timer.{Timer}
use Rattle.fc_timers.specs.declared.timer.Armed.{Armed}
use Rattle.fc_timers.specs.Slotted.{Slotted, armed, newly, renewed, timer_count, by_turn, precedes}
use Rattle.fc_timers.specs.Slotted.{AreGivenOut, IsChanged, IsEarliest, IsPopped, NoneDue as NoneOfSlotsDue}
use Rattle.fc_timers.specs.Timers.{NoneDue, IsInOrder, by_time_then_turn, found, first_turn, timer_of, turn_of, without}
use Rattle.fc_timers.specs.InOrder.{entry, in_order}
use Rattle.fc_timers.proofs.Entries.{found_passes, none_passes, same_is, same_true, so_of_found, without_put}
use Rattle.fc_timers.proofs.Kept.{taken_out}
use Rattle.fc_timers.proofs.OfQueue.{AreApart, both_equal, is_list, list_with, listed_ascends, listed_length, one_list, order_total, slots_apart, timer_decided}
use Rattle.fc_timers.proofs.SameLists.{all_found, at_put_new, found_equal, of_found}

module _ {T V : Type 0} where
  -- What is in a queue after a timer was taken out was there before, and timers are apart still.
  was_there : (old new : Slotted T V) (timer : Timer) → IsChanged old new timer None → (other : Timer) (a : Armed T V) → armed new other ≡ Some a
      → armed old other ≡ Some a
  was_there old new timer changed other a h =
      sym (changed.others other (λ same. let no : None ≡ Some a = sym changed.here ∙ ap (armed new) (sym same) ∙ h in absurd cc)) ∙ h

  apart_still : (old new : Slotted T V) (timer : Timer) → IsChanged old new timer None → AreApart old → AreApart new
  apart_still old new timer changed apart one other a b e f turns =
      apart one other a b (was_there old new timer changed one a e) (was_there old new timer changed other b f) turns

  next_apart : (q : Slotted T V) → AreGivenOut q → (other : Timer) (b : Armed T V) → armed q other ≡ Some b → q.next_number ≢ b.turn
  next_apart q given other b there same = omega (arith, given.turns other b there, same)

  -- a queue with one timer more, where no other has its turn
  module _ (q more : Slotted T V) (timer : Timer) (a : Armed T V) (put_in : IsChanged q more timer (Some a))
      (fresh : (other : Timer) (b : Armed T V) → armed q other ≡ Some b → a.turn ≢ b.turn) (apart : AreApart q) where
    left : (other : Timer) (b : Armed T V) → other ≢ timer → armed more other ≡ Some b → armed q other ≡ Some b
    left other b differs h = sym (put_in.others other differs) ∙ h

    put_there : (other : Timer) (b : Armed T V) → other ≡ timer → armed more other ≡ Some b → a ≡ b
    put_there other b same h = let two : Some a ≡ Some b = sym put_in.here ∙ ap (armed more) (sym same) ∙ h in cc

    still_apart : AreApart more
    still_apart one other b c e f turns = elim (timer_decided one timer) [
      | inl here ↦ elim (timer_decided other timer) [
        | inl there ↦ here ∙ sym there
        | inr there ↦ absurd (fresh other c (left other c there f) (ap (λ (x : Armed T V). x.turn) (put_there one b here e) ∙ turns))
      ]
      | inr here ↦ elim (timer_decided other timer) [
        | inl there ↦ absurd (fresh one b (left one b here e) (ap (λ (x : Armed T V). x.turn) (put_there other c there f) ∙ sym turns))
        | inr there ↦ apart one other b c (left one b here e) (left other c there f) turns
      ]
    ]

  given_more : (q more : Slotted T V) (timer : Timer) (a : Armed T V) → AreGivenOut q → IsChanged q more timer (Some a) → timer.number < more.next_number
      → a.turn < more.next_number → q.next_number ≤ a.turn → AreGivenOut more
  given_more q more timer a given put_in number turn next = record {
    numbers = λ other b stands. elim (timer_decided other timer) [
      | inl same ↦ omega (arith, number, ap (λ (t : Timer). t.number) same)
      | inr apart ↦ omega (arith, turn, next, given.numbers other b (sym (put_in.others other apart) ∙ stands))
    ];
    turns = λ other b stands. elim (timer_decided other timer) [
      | inl same ↦
          let whole : a ≡ b = let two : Some a ≡ Some b = sym put_in.here ∙ ap (armed more) (sym same) ∙ stands in cc in
          omega (arith, turn, ap (λ (x : Armed T V). x.turn) whole)
      | inr apart ↦ omega (arith, turn, next, given.turns other b (sym (put_in.others other apart) ∙ stands))
    ];
    distinct = still_apart q more timer a put_in (λ other b stands same. omega (arith, next, given.turns other b stands, same)) given.distinct;
  }

  -- Of a queue with one timer fewer, and with one more, each has a number and a turn that were given out.
  pub given_less : (old new : Slotted T V) (timer : Timer) → AreGivenOut old → IsChanged old new timer None → new.next_number ≡ old.next_number
      → AreGivenOut new
  given_less old new timer given changed next = record {
    numbers = λ other a stands. omega (arith, next, given.numbers other a (was_there old new timer changed other a stands));
    turns = λ other a stands. omega (arith, next, given.turns other a (was_there old new timer changed other a stands));
    distinct = apart_still old new timer changed given.distinct;
  }

  pub given_inserted : (old new : Slotted T V) (timer : Timer) (time : T) (value : V) → AreGivenOut old → IsChanged old new timer (Some (newly old time value))
      → timer.number ≡ old.next_number → new.next_number ≡ old.next_number + 1 → AreGivenOut new
  given_inserted old new timer time value given changed number next =
      given_more old new timer (newly old time value) given changed (omega (arith, number, next)) (omega (arith, next)) (omega arith)

  -- The queue that a timer was taken out of.
  abbrev emptied : Slotted T V → Timer → Slotted T V
  emptied q timer = record q { slots = set q.slots timer.slot None }

  taken : (q : Slotted T V) (timer : Timer) (a : Armed T V) → armed q timer ≡ Some a → IsChanged q (emptied q timer) timer None
  taken q timer a stands = (taken_out q (emptied q timer) timer a stands refl).0

  put_back : (old new : Slotted T V) (timer : Timer) (a : Armed T V) (time : T) → armed old timer ≡ Some a
      → IsChanged old new timer (renewed time old.next_number (armed old timer))
      → IsChanged (emptied old timer) new timer (Some (record a { at = time; turn = old.next_number }))
  put_back old new timer a time stands changed = record {
    here = changed.here ∙ ap (renewed time old.next_number) stands;
    others = λ other differs. changed.others other differs ∙ sym ((taken old timer a stands).others other differs);
  }

  pub given_renewed : (old new : Slotted T V) (timer : Timer) (a : Armed T V) (time : T) → AreGivenOut old → armed old timer ≡ Some a
      → IsChanged old new timer (renewed time old.next_number (armed old timer)) → new.next_number ≡ old.next_number + 1 → AreGivenOut new
  given_renewed old new timer a time given stands changed next =
      given_more (emptied old timer) new timer (record a { at = time; turn = old.next_number })
      (given_less old (emptied old timer) timer given (taken old timer a stands) refl) (put_back old new timer a time stands changed)
      (omega (arith, next, given.numbers timer a stands)) (omega (arith, next)) (omega arith)

-- an entry that is not after another one, and of another turn, is before it
first : (r : Ordering) (m n : ℕ) → by_turn r (leb m n) ≡ true → m ≢ n → ordering_then r (nat_cmp m n) ≡ Less
first Less m n h apart = refl
first Equal m n h apart = let less : m < n = omega (arith, leb-true m n h) in sym (nat_cmp_is m n Less less)
first Greater m n h apart = absurd cc

module _ {T V : Type 0} (cmp : T → T → Ordering) (total : IsTotalOrder cmp) where
  -- It is as long as there are timers.
  pub length_in_order : (q : Slotted T V) → AreGivenOut q → length (in_order cmp q) ≡ timer_count q
  length_in_order q given = listed_length total 0 q.slots (slots_apart q given.distinct)

  -- the timers of the list are those of the slots
  each_stands : (q : Slotted T V) → AreApart q
      → AllByRecursion (λ e. (a : Armed T V) × (armed q (timer_of e) ≡ Some a) × (e ≡ entry (timer_of e) a)) (in_order cmp q)
  each_stands q apart = all_found (by_time_then_turn cmp) (order_total total) _ (in_order cmp q) (listed_ascends total 0 q.slots)
      (λ e h. (is_list total q apart).each e.0 e h)

  found_none : (q : Slotted T V) (timer : Timer) → AreApart q → armed q timer ≡ None → found (in_order cmp q) timer ≡ None
  found_none q timer apart none = go (found (in_order cmp q) timer) refl
    where
      go : (o : Option ((T × ℕ) × (Timer × V))) → found (in_order cmp q) timer ≡ o → found (in_order cmp q) timer ≡ None
      go None e = e
      go (Some x) e =
          let is = so_of_found _ _ (in_order cmp q) (each_stands q apart) x e in
          let no : None ≡ Some is.0 = sym none ∙ ap (armed q) (sym (same_true x.1.0 timer (found_passes _ (in_order cmp q) x e))) ∙ is.1 in
          absurd cc

  found_some : (q : Slotted T V) (timer : Timer) (a : Armed T V) → AreApart q → armed q timer ≡ Some a → found (in_order cmp q) timer ≡ Some (entry timer a)
  found_some q timer a apart stands = go (found (in_order cmp q) timer) refl
    where
      go : (o : Option ((T × ℕ) × (Timer × V))) → found (in_order cmp q) timer ≡ o → found (in_order cmp q) timer ≡ Some (entry timer a)
      go None e =
          let no : true ≡ false = sym (same_is timer timer refl) ∙ of_found (by_time_then_turn cmp) _ (in_order cmp q) (a.at, a.turn) (entry timer a)
          (none_passes _ (in_order cmp q) e) ((is_list total q apart).all timer a stands) in
          absurd cc
      go (Some x) e =
          let is = so_of_found _ _ (in_order cmp q) (each_stands q apart) x e in
          let same : x.1.0 ≡ timer = same_true x.1.0 timer (found_passes _ (in_order cmp q) x e) in
          let whole : is.0 ≡ a = let both : Some is.0 ≡ Some a = sym is.1 ∙ ap (armed q) same ∙ stands in cc in
          e ∙ ap Some is.2 ∙ (λ i. Some (entry (same i) (whole i)))

  -- What is found of a timer is what stands at it.
  pub found_in_order : (q : Slotted T V) (timer : Timer) → AreGivenOut q → found (in_order cmp q) timer ≡ option_map (entry timer) (armed q timer)
  found_in_order q timer given = go (armed q timer) refl
    where
      go : (o : Option (Armed T V)) → armed q timer ≡ o → found (in_order cmp q) timer ≡ option_map (entry timer) o
      go None e = found_none q timer given.distinct e
      go (Some a) e = found_some q timer a given.distinct e

  -- The list of a queue is in order.
  pub queue_in_order : (q : Slotted T V) (room : ℕ) → AreGivenOut q
      → IsInOrder cmp (record { timers = in_order cmp q; next_turn = q.next_number; room = room })
  queue_in_order q room given = record {
    ascending = listed_ascends total 0 q.slots;
    given_out = All-from_recursion _ (in_order cmp q) (all_found (by_time_then_turn cmp) (order_total total)
        (λ e. (turn_of e < q.next_number) × (first_turn (timer_of e) < q.next_number)) (in_order cmp q) (listed_ascends total 0 q.slots)
        (λ e h.
        let is = (is_list total q given.distinct).each e.0 e h in
        (omega (arith, ap (λ y. y.0.1) is.2, given.turns e.1.0 is.0 is.1), given.numbers e.1.0 is.0 is.1)));
    once = All-from_recursion _ (in_order cmp q) (all_found (by_time_then_turn cmp) (order_total total) _ (in_order cmp q) (listed_ascends total 0 q.slots)
        (λ e h.
        let is = (is_list total q given.distinct).each e.0 e h in
        found_some q e.1.0 is.0 given.distinct is.1 ∙ ap Some (sym is.2)));
  }

  -- the list of a queue with one timer more, where no other has its turn
  module _ (q more : Slotted T V) (timer : Timer) (a : Armed T V) (put_in : IsChanged q more timer (Some a)) (none : armed q timer ≡ None)
      (fresh : (other : Timer) (b : Armed T V) → armed q other ≡ Some b → a.turn ≢ b.turn) (apart : AreApart q) where
    nothing_there : at (by_time_then_turn cmp) (in_order cmp q) (a.at, a.turn) ≡ None
    nothing_there = go (at (by_time_then_turn cmp) (in_order cmp q) (a.at, a.turn)) refl
      where
        go : (o : Option ((T × ℕ) × (Timer × V))) → at (by_time_then_turn cmp) (in_order cmp q) (a.at, a.turn) ≡ o
            → at (by_time_then_turn cmp) (in_order cmp q) (a.at, a.turn) ≡ None
        go None e = e
        go (Some x) e =
            let is = (is_list total q apart).each (a.at, a.turn) x e in
            let equal = both_equal (cmp x.0.0 a.at) (nat_cmp x.0.1 a.turn) (found_equal (by_time_then_turn cmp) (in_order cmp q) (a.at, a.turn) x e) in
            absurd (fresh x.1.0 is.0 is.1 (sym (exact_unsigned x.0.1 a.turn equal.1) ∙ ap (λ y. y.0.1) is.2))

    with_one_more : in_order cmp more ≡ put (by_time_then_turn cmp) (in_order cmp q) (a.at, a.turn) (timer, a.value)
    with_one_more = one_list total more _ _ (is_list total more (still_apart q more timer a put_in fresh apart))
        (list_with total q more timer a put_in none fresh (in_order cmp q) _ (is_list total q apart)
        (ascending_put (by_time_then_turn cmp) (in_order cmp q) (a.at, a.turn) (timer, a.value) (order_total total) (listed_ascends total 0 q.slots))
        (λ k. at_put_new (by_time_then_turn cmp) (order_total total) (in_order cmp q) (a.at, a.turn) (timer, a.value) k nothing_there))

  -- the queue that a timer is taken out of, as one that it is put in
  module _ (old new : Slotted T V) (timer : Timer) (a : Armed T V) (apart : AreApart old) (stands : armed old timer ≡ Some a)
      (changed : IsChanged old new timer None) where
    back : IsChanged new old timer (Some a)
    back = record { here = stands; others = λ other differs. sym (changed.others other differs) }

    fresh : (other : Timer) (b : Armed T V) → armed new other ≡ Some b → a.turn ≢ b.turn
    fresh other b there same =
        let one : timer ≡ other = apart timer other a b stands (was_there old new timer changed other b there) same in
        let no : None ≡ Some b = sym changed.here ∙ ap (armed new) one ∙ there in
        absurd cc

    without_one : in_order cmp new ≡ without (in_order cmp old) timer
    without_one =
        let still = apart_still old new timer changed apart in
        sym (ap (λ s. without s timer) (with_one_more new old timer a back changed.here fresh still)
        ∙ without_put cmp total (in_order cmp new) (a.at, a.turn) timer a.value (listed_ascends total 0 new.slots)
        (nothing_there new old timer a back changed.here fresh still) (found_none new timer still changed.here))

    -- where it precedes all, it is at the head
    at_the_head : ((other : Timer) (b : Armed T V) → armed old other ≡ Some b → precedes cmp a b ≡ true) → in_order cmp old ≡ entry timer a ∷ in_order cmp new
    at_the_head first_of =
        let still = apart_still old new timer changed apart in
        let after : AllByRecursion (λ e. by_time_then_turn cmp (a.at, a.turn) e.0 ≡ Less) (in_order cmp new) =
        all_found (by_time_then_turn cmp) (order_total total) _ (in_order cmp new) (listed_ascends total 0 new.slots) (λ e h.
        let is = (is_list total new still).each e.0 e h in
        let was = was_there old new timer changed e.1.0 is.0 is.1 in
        ap (λ y. by_time_then_turn cmp (a.at, a.turn) y.0) is.2
        ∙ first (cmp a.at is.0.at) a.turn is.0.turn (first_of e.1.0 is.0 was) (fresh e.1.0 is.0 is.1)) in
        one_list total old _ _ (is_list total old apart)
        (list_with total new old timer a back changed.here fresh (in_order cmp new) (entry timer a ∷ in_order cmp new) (is_list total new still)
        (after, listed_ascends total 0 new.slots) (λ k. refl))

  -- An insertion puts the timer with its value at its time and the next turn.
  pub in_order_inserted : (old new : Slotted T V) (timer : Timer) (time : T) (value : V) → AreGivenOut old → armed old timer ≡ None
      → IsChanged old new timer (Some (newly old time value))
      → in_order cmp new ≡ put (by_time_then_turn cmp) (in_order cmp old) (time, old.next_number) (timer, value)
  in_order_inserted old new timer time value given none changed =
      with_one_more old new timer (newly old time value) changed none (next_apart old given) given.distinct

  -- A timer that is cancelled is left out.
  pub in_order_cancelled : (old new : Slotted T V) (timer : Timer) (a : Armed T V) → AreGivenOut old → armed old timer ≡ Some a → IsChanged old new timer None
      → in_order cmp new ≡ without (in_order cmp old) timer
  in_order_cancelled old new timer a given stands changed = without_one old new timer a given.distinct stands changed

  -- A timer that is given another time is left out, and put in at that time and the next turn.
  pub in_order_rescheduled : (old new : Slotted T V) (timer : Timer) (a : Armed T V) (time : T) → AreGivenOut old → armed old timer ≡ Some a
      → IsChanged old new timer (renewed time old.next_number (armed old timer))
      → in_order cmp new ≡ put (by_time_then_turn cmp) (without (in_order cmp old) timer) (time, old.next_number) (timer, a.value)
  in_order_rescheduled old new timer a time given stands changed =
      let between = emptied old timer in
      let out = taken old timer a stands in
      let b : Armed T V = record a { at = time; turn = old.next_number } in
      let put_in : IsChanged between new timer (Some b) = put_back old new timer a time stands changed in
      with_one_more between new timer b put_in out.here
      (λ other c there. next_apart old given other c (was_there old between timer out other c there))
      (apart_still old between timer out given.distinct)
      ∙ ap (λ s. put (by_time_then_turn cmp) s (time, old.next_number) (timer, a.value)) (without_one old between timer a given.distinct stands out)

  -- The timer that comes out was the head, and the others are left.
  pub in_order_popped : (old new : Slotted T V) (now : T) (timer : Timer) (a : Armed T V) → AreGivenOut old → IsPopped cmp old new now timer a
      → in_order cmp old ≡ entry timer a ∷ in_order cmp new
  in_order_popped old new now timer a given popped =
      at_the_head old new timer a given.distinct popped.earliest.stands popped.changed popped.earliest.first

  -- The earliest timer is the head.
  pub earliest_is_head : (q : Slotted T V) (timer : Timer) (a : Armed T V) → AreGivenOut q → IsEarliest cmp q timer a
      → in_order cmp q ≡ entry timer a ∷ in_order cmp (emptied q timer)
  earliest_is_head q timer a given earliest =
      at_the_head q (emptied q timer) timer a given.distinct earliest.stands (taken q timer a earliest.stands) earliest.first

  -- Where none is due, each time is after now.
  pub none_due_in_order : (q : Slotted T V) (now : T) → AreGivenOut q → NoneOfSlotsDue cmp q now → NoneDue cmp (in_order cmp q) now
  none_due_in_order q now given none = All-from_recursion _ (in_order cmp q) (all_found (by_time_then_turn cmp) (order_total total) _ (in_order cmp q)
      (listed_ascends total 0 q.slots) (λ e h.
      let is = (is_list total q given.distinct).each e.0 e h in
      ap (λ y. is_gt (cmp y.0.0 now)) is.2 ∙ none e.1.0 is.0 is.1))
