-- A queue stays sound where one slot changes, and where a slot is added.
use Rattle.std.proofs.Common.{◌≡◌, ℕ, zero, suc, ◌+◌, ◌^◌, ◌<◌, ◌≤◌, cond, List, [], ◌∷◌, ◌++◌}
use Rattle.std.proofs.Common.{length, get_or, set, count_by, Option, Some, None, is_some, IsSome, false, refl, sym, ap, subst, ◌∙◌, arith}
use Rattle.std.proofs.lemmas.List.{get_or_append_left, length-map, length-set, length_push, map_push}
use Rattle.std.proofs.lemmas.List.Sums.{sum_by-set, sum_by_push}
use Rattle.std.specs.Ordering.{is_gt}
use Rattle.std.specs.declared.cmp.Ordering.{Ordering}
use Rattle.fc_timers.specs.declared.timer.Timer.{Timer}
use Rattle.fc_timers.specs.declared.timer.Armed.{Armed}
use Rattle.fc_timers.specs.declared.slot.Due.{Due}
use Rattle.fc_timers.specs.declared.slot.Slot.{Slot}
use Rattle.fc_timers.specs.Slotted.{Slotted, armed, renewed, timer_count, IsChanged, IsPopped}
use Rattle.std.specs.List.{slice_get}
use Rattle.fc_timers.specs.Heap.{AreVacantKept, IsFirst, IsGivenOut, IsHeap, IsSound, IsVacantList, held_at, helds, link_at, links, own_due}
use Rattle.fc_timers.proofs.Heaps.{own_held, within_some}
use Rattle.fc_timers.proofs.Listed.{listed_before, listed_as, listed_new, listed_rest, listed_still}
use Rattle.fc_timers.proofs.Standing.{given_out_set, get_or_push_none, in_slot, IsNext, slot_changed, none_numbered, not_later, some_numbered}

abbrev one : {X : Type 0} → Option X → ℕ
one o = cond (is_some o) 1 0

module _ {T V : Type 0} (h : List (Option (Armed T V))) (k : ℕ) (within : k < length h) where
  pub count_filled : (a : Armed T V) → get_or h k None ≡ None → count_by is_some (set h k (Some a)) ≡ count_by is_some h + 1
  count_filled a was =
      let counted = sum_by-set one h k (Some a) None within in
      let none : one (get_or h k None) ≡ 0 = ap one was in
      omega arith

  pub count_emptied : (a : Armed T V) → get_or h k None ≡ Some a → count_by is_some (set h k None) + 1 ≡ count_by is_some h
  count_emptied a was =
      let counted = sum_by-set one h k None None within in
      let there : one (get_or h k None) ≡ 1 = ap one was in
      omega arith

  pub count_renewed : (a b : Armed T V) → get_or h k None ≡ Some a → count_by is_some (set h k (Some b)) ≡ count_by is_some h
  count_renewed a b was =
      let counted = sum_by-set one h k (Some b) None within in
      let there : one (get_or h k None) ≡ 1 = ap one was in
      omega arith

-- The lists of the slots are as long as the slots.
lengths : {T V : Type 0} (slots : List (Slot T V)) → (length (helds slots) ≡ length slots) × (length (links slots) ≡ length slots)
lengths slots = (length-map slots (λ s. s.held), length-map slots (λ s. s.link))

module _ {T V : Type 0} {cmp : T → T → Ordering} (slots new : List (Slot T V)) (heap heap' : List (Due T)) (k n vacant : ℕ) (within : k < length slots)
    (sound : IsSound cmp slots heap n vacant) (heaped : IsHeap cmp new heap') where
  inside : k < length (helds slots)
  inside = omega (arith, (lengths slots).0)

  given_out : (x : Option (Armed T V)) (m : ℕ) → helds new ≡ set (helds slots) k x → n ≤ m → IsNext n m x → IsGivenOut (helds new) m
  given_out x m written more below = rw written (given_out_set (helds slots) k n m x inside more below sound.given_out)

  as_long : (x : Option (Armed T V)) → helds new ≡ set (helds slots) k x → length new ≡ length slots
  as_long x written = omega (arith, (lengths slots).0, (lengths new).0, ap length written, length-set (helds slots) k x)

  pub sound_filled : (a : Armed T V) (m : ℕ) → length slots < 2 ^ 64 → length heap' ≡ length heap + 1 → length heap + suc m ≡ length slots
      → IsVacantList (helds slots) (links slots) (suc m) k → helds new ≡ set (helds slots) k (Some a) → AreVacantKept new (links slots)
      → a.number ≡ n → a.turn ≡ n → IsSound cmp new heap' (n + 1) (get_or (links slots) k 0)
  sound_filled a m fits longer total listed written named number turn = record {
    heaped = heaped;
    counted = omega (arith, longer, sound.counted, ap (count_by is_some) written, count_filled (helds slots) k inside a listed.1);
    given_out = given_out (Some a) (n + 1) written (omega arith) (λ b e.
        let same : a ≡ b = cc in
        let turns = ap (λ (x : Armed T V). x.turn) same in
        (omega (arith, ap (λ (x : Armed T V). x.number) same), omega (arith, turns), omega (arith, turns)));
    vacancies = m;
    total = omega (arith, longer, total, as_long (Some a) written);
    listed = listed_as _ _ _ _ m _ written named (listed_rest (helds slots) (links slots) m k (omega (arith, (lengths slots).0)) (Some a) listed);
  }

  pub sound_emptied : (a : Armed T V) → length heap' + 1 ≡ length heap → get_or (helds slots) k None ≡ Some a → helds new ≡ set (helds slots) k None
      → AreVacantKept new (set (links slots) k vacant) → IsSound cmp new heap' n k
  sound_emptied a shorter was written named = record {
    heaped = heaped;
    counted = omega (arith, shorter, sound.counted, ap (count_by is_some) written, count_emptied (helds slots) k inside a was);
    given_out = given_out None n written (omega arith) (λ b e. absurd cc);
    vacancies = suc sound.vacancies;
    total = omega (arith, shorter, sound.total, as_long None written);
    listed = listed_as _ _ _ _ (suc sound.vacancies) k written named
        (listed_before (helds slots) (links slots) sound.vacancies k a
        (omega (arith, (lengths slots).0, (lengths slots).1)) inside was vacant sound.listed);
  }

  pub sound_renewed : (a b : Armed T V) → length heap' ≡ length heap → get_or (helds slots) k None ≡ Some a → helds new ≡ set (helds slots) k (Some b)
      → AreVacantKept new (links slots) → b.number ≡ a.number → b.turn ≡ n → IsSound cmp new heap' (n + 1) vacant
  sound_renewed a b same was written named number turn = record {
    heaped = heaped;
    counted = omega (arith, same, sound.counted, ap (count_by is_some) written, count_renewed (helds slots) k inside a b was);
    given_out = given_out (Some b) (n + 1) written (omega arith) (λ d e.
        let is : b ≡ d = cc in
        let below = sound.given_out.below k a was in
        let turns = ap (λ (x : Armed T V). x.turn) is in
        (omega (arith, ap (λ (x : Armed T V). x.number) is), omega (arith, turns), omega (arith, turns)));
    vacancies = sound.vacancies;
    total = omega (arith, same, sound.total, as_long (Some b) written);
    listed = listed_as _ _ _ _ sound.vacancies vacant written named
        (listed_still (helds slots) (links slots) sound.vacancies k a (Some b) was vacant sound.listed);
  }

-- With a slot more, in which nothing stands, the places are the heap that they were.
heap_pushed : {T V : Type 0} (cmp : T → T → Ordering) (slots : List (Slot T V)) (heap : List (Due T)) (last : Slot T V) (vacant : ℕ)
    → helds (slots ++ last ∷ []) ≡ helds slots ++ None ∷ [] → links (slots ++ last ∷ []) ≡ links slots ++ vacant ∷ [] → IsHeap cmp slots heap
    → IsHeap cmp (slots ++ last ∷ []) heap
heap_pushed {T} {V} cmp slots heap last vacant more linked heaped = record {
  indexed = record {
    named = λ k d is.
        let was = heaped.indexed.named k d is in
        let below = within_some (helds slots) d.slot (own_held d.slot _ d was.0) in
        (ap (own_due d.slot) (held d.slot) ∙ was.0, link d.slot below ∙ was.1);
    placed = λ k a is.
        let was = sym (held k) ∙ is in
        let below = within_some (helds slots) k (λ none. cc) in
        ap (slice_get heap) (link k below) ∙ heaped.indexed.placed k a was;
  };
  ordered = heaped.ordered;
}
  where
    held : (k : ℕ) → held_at (slots ++ last ∷ []) k ≡ held_at slots k
    held k = ap (λ l. get_or l k None) more ∙ get_or_push_none (helds slots) k

    link : (k : ℕ) → k < length (helds slots) → link_at (slots ++ last ∷ []) k ≡ link_at slots k
    link k below = ap (λ l. get_or l k 0) linked
        ∙ get_or_append_left (links slots) (vacant ∷ []) 0 k (omega (arith, below, (lengths slots).0, (lengths slots).1))

module _ {T V : Type 0} {cmp : T → T → Ordering} (slots : List (Slot T V)) (heap : List (Due T)) (n vacant : ℕ)
    (sound : IsSound cmp slots heap n vacant) where
  -- Where fewer hold a timer than there are slots, the list names one.
  pub first_vacancy : length heap < length slots → (m : ℕ) × (length heap + suc m ≡ length slots) × IsVacantList (helds slots) (links slots) (suc m) vacant
  first_vacancy fewer = by_count sound.vacancies sound.total sound.listed
    where
      by_count : (m : ℕ) → length heap + m ≡ length slots → IsVacantList (helds slots) (links slots) m vacant
          → (m : ℕ) × (length heap + suc m ≡ length slots) × IsVacantList (helds slots) (links slots) (suc m) vacant
      by_count zero total listed = absurd (omega arith)
      by_count (suc m) total listed = (m, total, listed)

  pub asked_vacancy : count_by is_some (helds slots) < length (helds slots)
      → (m : ℕ) × (length heap + suc m ≡ length slots) × IsVacantList (helds slots) (links slots) (suc m) vacant
  asked_vacancy asked = first_vacancy (omega (arith, asked, sound.counted, length-map slots (λ s. s.held)))

  -- A vacant slot after the others changes nothing else.
  pub sound_pushed : (last : Slot T V) → last.held ≡ None → last.link ≡ vacant → (at : ℕ) → at ≡ length slots
      → IsSound cmp (slots ++ last ∷ []) heap n at
  sound_pushed last held next at is =
      let more : helds (slots ++ last ∷ []) ≡ helds slots ++ None ∷ [] = map_push (λ s. s.held) slots last ∙ ap (λ h. helds slots ++ h ∷ []) held in
      let linked : links (slots ++ last ∷ []) ≡ links slots ++ vacant ∷ [] = map_push (λ s. s.link) slots last ∙ ap (λ h. links slots ++ h ∷ []) next in
      let listed = listed_new (helds slots) (links slots) sound.vacancies vacant (omega (arith, (lengths slots).0, (lengths slots).1)) sound.listed in
      record {
        heaped = heap_pushed cmp slots heap last vacant more linked sound.heaped;
        counted = rw more (omega (arith, sound.counted, sum_by_push one (helds slots) None));
        given_out = rw more record {
          below = λ k a e. sound.given_out.below k a (sym (get_or_push_none (helds slots) k) ∙ e);
          distinct = λ j k a b e f. sound.given_out.distinct j k a b (sym (get_or_push_none (helds slots) j) ∙ e) (sym (get_or_push_none (helds slots) k) ∙ f);
        };
        vacancies = suc sound.vacancies;
        total = omega (arith, sound.total, length_push slots last);
        listed = listed_as _ _ _ _ (suc sound.vacancies) at more (λ j none. ap (λ l. get_or l j 0) linked)
            (subst (λ k. IsVacantList (helds slots ++ None ∷ []) (links slots ++ vacant ∷ []) (suc sound.vacancies) k) ((lengths slots).0 ∙ sym is) listed);
      }

-- There are as many slots after a change of what one holds.
pub slots_kept : {T V : Type 0} (slots new : List (Slot T V)) (k : ℕ) (x : Option (Armed T V)) → helds new ≡ set (helds slots) k x
    → length new ≡ length slots
slots_kept slots new k x written = omega (arith, (lengths slots).0, (lengths new).0, ap length written, length-set (helds slots) k x)

-- Where each slot holds a timer, and a place more fits in the heap, as many places fit as there are slots with one more.
pub room_kept : {T V : Type 0} (slots : List (Slot T V)) (heap : List (Due T)) (more room : ℕ) → length (helds slots) ≡ count_by is_some (helds slots)
    → length heap ≡ count_by is_some (helds slots) → length heap + 1 ≤ room → more ≡ length slots + 1 → more ≤ room
room_kept slots heap more room full counted fits longer = omega (arith, full, counted, fits, longer, length-map slots (λ s. s.held))

module _ {T V : Type 0} where
  pub within_slot : (h : List (Option (Armed T V))) (k : ℕ) (a : Armed T V) → get_or h k None ≡ Some a → k < length h
  within_slot [] k a e = absurd cc
  within_slot (x ∷ h) zero a e = omega arith
  within_slot (x ∷ h) (suc k) a e = omega (arith, within_slot h k a e)

  -- A timer whose slot is emptied is in the queue no more.
  pub taken_out : (old new : Slotted T V) (timer : Timer) (a : Armed T V) → armed old timer ≡ Some a → new.slots ≡ set old.slots timer.slot None
      → IsChanged old new timer None × (timer_count new + 1 ≡ timer_count old)
  taken_out old new timer a stands written =
      let there = in_slot old timer a stands in
      let within = within_slot old.slots timer.slot a there.0 in (
        slot_changed old new timer None within written (none_numbered timer.number None refl) (some_numbered timer.number _ a there.0 there.1),
        ap (λ s. count_by is_some s + 1) written ∙ count_emptied old.slots timer.slot within a there.0,
      )

  -- A timer of which the time and the turn are written anew stays what it is.
  pub moved : (old new : Slotted T V) (timer : Timer) (a : Armed T V) (at : T) (turn : ℕ) → armed old timer ≡ Some a
      → new.slots ≡ set old.slots timer.slot (renewed at turn (get_or old.slots timer.slot None))
      → IsChanged old new timer (renewed at turn (armed old timer)) × (timer_count new ≡ timer_count old)
  moved old new timer a at turn stands written =
      let there = in_slot old timer a stands in
      let within = within_slot old.slots timer.slot a there.0 in
      let known : new.slots ≡ set old.slots timer.slot (renewed at turn (Some a)) = written ∙ ap (λ h. set old.slots timer.slot (renewed at turn h)) there.0 in
      rw stands (
        slot_changed old new timer (renewed at turn (Some a)) within known (some_numbered timer.number _ _ refl there.1)
            (some_numbered timer.number _ a there.0 there.1),
        ap (count_by is_some) known ∙ count_renewed old.slots timer.slot within a _ there.0,
      )

  pub there : (h : Option (Armed T V)) → IsSome h → (a : Armed T V) × (h ≡ Some a)
  there None some = absurd cc
  there (Some a) some = (a, refl)

  -- Where a slot holds a timer there is one.
  pub some_counted : (h : List (Option (Armed T V))) (k : ℕ) → IsSome (get_or h k None) → 1 ≤ count_by is_some h
  some_counted h k some = let held = there _ some in omega (arith, count_emptied h k (within_slot h k held.0 held.1) held.0 held.1)

module _ {T V : Type 0} {cmp : T → T → Ordering} where
  -- Taking the first timer out, where it is due, is what a call says that answers it.
  pub popped : (old new : Slotted T V) (f : Due T) (now : T) (a : Armed T V) → IsFirst cmp old f → is_gt (cmp f.at now) ≡ false
      → new.slots ≡ set old.slots f.slot None → Some a ≡ get_or old.slots f.slot None → IsPopped cmp old new now (record { slot = f.slot; number = a.number }) a
  popped old new f now a first due written answer =
      let same : a ≡ first.armed = let both : Some a ≡ Some first.armed = answer ∙ first.held in cc in
      subst (λ b. IsPopped cmp old new now (record { slot = f.slot; number = b.number }) b) (sym same) record {
        earliest = first.earliest;
        due = not_later (cmp first.armed.at now) (ap (λ t. is_gt (cmp t now)) first.at ∙ due);
        changed = (taken_out old new (record { slot = f.slot; number = first.armed.number }) first.armed first.earliest.stands written).0;
      }
