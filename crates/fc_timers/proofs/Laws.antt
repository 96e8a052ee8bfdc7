-- The laws of a queue as a list, for callers.
use Rattle.std.proofs.Common.{◌≡◌, ◌≢◌, ℕ, ◌+◌, ◌<◌, Bool, true, false, cond, List, [], ◌∷◌, ◌++◌, Option, Some, None, refl, sym, ap, ◌∙◌, subst, arith}
use Rattle.std.specs.Cmp.{IsTotalOrder, nat_cmp_is}
use Rattle.std.specs.Prelude.{not}
use Rattle.std.specs.List.{AllByRecursion, AllZip}
use Rattle.std.specs.Ordering.{is_gt, is_le, is_lt, nat_cmp, ordering_then}
use Rattle.std.specs.declared.cmp.Ordering.{Ordering}
use Rattle.std.specs.declared.cmp.Ordering.TheVariants.{Less, Equal, Greater}
use Rattle.std.proofs.lemmas.List.Elements.{recursion_from_All}
use Rattle.fc_base.specs.Copies.{SameContents}
use Rattle.fc_base.specs.OneKey.{put}
use Rattle.fc_base.specs.Parts.{above, at, below}
use Rattle.fc_base.proofs.AscendingFacts.{all_filter, all_map}
use Rattle.fc_timers.specs.declared.timer.Timer.{Timer}
use Rattle.fc_timers.specs.Copies.{IsCopy}
use Rattle.fc_timers.specs.Timers.{Queue, IsInOrder, by_time_then_turn, due_after, due_by, first_turn, found, is_same, time_of, timer_of, turn_of, without}
use Rattle.fc_timers.proofs.Entries.{all_out, filter_alike, found_kept, found_put, found_put_other, has_not_put, none_found, none_passes}
use Rattle.fc_timers.proofs.Entries.{nothing_next, put_between, same_false, same_true, without_put}

-- an entry with a smaller turn is before another at its time, and not after it
before : (r d : Ordering) → d ≡ Less → (is_lt (ordering_then r d) ≡ is_le r) × (is_gt (ordering_then r d) ≡ is_gt r)
before Less d e = (refl, refl)
before Equal d e = (ap is_lt e, ap is_gt e)
before Greater d e = (refl, refl)

early : (r : Ordering) → is_le r ≡ true → is_gt r ≡ false
early Less h = refl
early Equal h = refl
early Greater h = absurd cc

module _ {T V : Type 0} (cmp : T → T → Ordering) (total : IsTotalOrder cmp) (q : Queue T V) (in_order : IsInOrder cmp q) where
  earlier : AllByRecursion (λ e. turn_of e < q.next_turn) q.timers
  earlier = all_map (λ e. (turn_of e < q.next_turn) × (first_turn (timer_of e) < q.next_turn)) _ (λ e h. h.0) q.timers
      (recursion_from_All _ q.timers in_order.given_out)

  nothing : (time : T) → at (by_time_then_turn cmp) q.timers (time, q.next_turn) ≡ None
  nothing time = nothing_next cmp q.timers time q.next_turn earlier

  -- A timer that is put in is after all that are due by its time, and before all others.
  pub put_after_its_time : (time : T) (value : Timer × V) → put (by_time_then_turn cmp) q.timers (time, q.next_turn) value
      ≡ due_by cmp q.timers time ++ ((time, q.next_turn), value) ∷ due_after cmp q.timers time
  put_after_its_time time value =
      let less : AllByRecursion (λ e. nat_cmp (turn_of e) q.next_turn ≡ Less) q.timers =
      all_map _ _ (λ e h. sym (nat_cmp_is (turn_of e) q.next_turn Less h)) q.timers earlier in
      let below_is : below (by_time_then_turn cmp) q.timers (time, q.next_turn) ≡ due_by cmp q.timers time =
      filter_alike _ _ q.timers (all_map _ _ (λ e h. (before (cmp (time_of e) time) (nat_cmp (turn_of e) q.next_turn) h).0) q.timers less) in
      let above_is : above (by_time_then_turn cmp) q.timers (time, q.next_turn) ≡ due_after cmp q.timers time =
      filter_alike _ _ q.timers (all_map _ _ (λ e h. (before (cmp (time_of e) time) (nat_cmp (turn_of e) q.next_turn) h).1) q.timers less) in
      put_between cmp q.timers (time, q.next_turn) value (nothing time) ∙ (λ i. below_is i ++ ((time, q.next_turn), value) ∷ above_is i)

  -- A timer that is put in and taken out leaves the list as it was.
  pub without_inserted : (time : T) (timer : Timer) (value : V) → found q.timers timer ≡ None
      → without (put (by_time_then_turn cmp) q.timers (time, q.next_turn) (timer, value)) timer ≡ q.timers
  without_inserted time timer value fresh = without_put cmp total q.timers (time, q.next_turn) timer value in_order.ascending (nothing time) fresh

  -- A timer that is put in is found, and each other as it was.
  pub found_inserted : (time : T) (timer : Timer) (value : V) → found q.timers timer ≡ None
      → found (put (by_time_then_turn cmp) q.timers (time, q.next_turn) (timer, value)) timer ≡ Some ((time, q.next_turn), (timer, value))
  found_inserted time timer value fresh = found_put cmp total q.timers (time, q.next_turn) timer value in_order.ascending (nothing time) fresh

  pub found_beside_inserted : (time : T) (timer : Timer) (value : V) (other : Timer) → timer ≢ other
      → found (put (by_time_then_turn cmp) q.timers (time, q.next_turn) (timer, value)) other ≡ found q.timers other
  found_beside_inserted time timer value other differs =
      found_put_other cmp total q.timers (time, q.next_turn) timer value in_order.ascending (nothing time) other (same_false timer other differs)

  -- A timer that was due is not found among those due later.
  pub due_is_gone : (timer : Timer) (e : (T × ℕ) × (Timer × V)) (now : T) → found q.timers timer ≡ Some e → is_le (cmp (time_of e) now) ≡ true
      → found (due_after cmp q.timers now) timer ≡ None
  due_is_gone timer e now there due =
      none_found _ (due_after cmp q.timers now) (all_out _ _ q.timers (all_map _ _ (λ x once.
      one x once (is_same (timer_of x) timer) refl) q.timers (recursion_from_All _ q.timers in_order.once)))
    where
      one : (x : (T × ℕ) × (Timer × V)) → found q.timers (timer_of x) ≡ Some x → (b : Bool) → is_same (timer_of x) timer ≡ b
          → is_gt (cmp (time_of x) now) ≡ true → b ≡ false
      one x once false same late = refl
      one x once true same late =
          let whole : x ≡ e = let both : Some x ≡ Some e = sym once ∙ ap (found q.timers) (same_true (timer_of x) timer same) ∙ there in cc in
          let no : true ≡ false = sym late ∙ ap (λ y. is_gt (cmp (time_of y) now)) whole ∙ early (cmp (time_of e) now) due in
          absurd cc

module _ {T V : Type 0} (cmp : T → T → Ordering) (s : List ((T × ℕ) × (Timer × V))) where
  -- A timer that is due is found among those that are.
  pub due_comes_out : (timer : Timer) (e : (T × ℕ) × (Timer × V)) (now : T) → found s timer ≡ Some e → is_le (cmp (time_of e) now) ≡ true
      → found (due_by cmp s now) timer ≡ Some e
  due_comes_out timer e now there due = found_kept _ _ s e there due

  module _ (gone : Timer) (none : found s gone ≡ None) where
    -- A timer that is gone is found no more: not after an insertion, whose timer has a later first turn,
    pub gone_after_put : (k : T × ℕ) (timer : Timer) (value : V) → first_turn gone < first_turn timer
        → found (put (by_time_then_turn cmp) s k (timer, value)) gone ≡ None
    gone_after_put k timer value later =
        none_found _ (put (by_time_then_turn cmp) s k (timer, value)) (has_not_put cmp s k timer value gone (none_passes _ s none)
        (same_false timer gone (λ same. omega (arith, later, ap (λ (t : Timer). t.number) same))))

    -- nor once another timer was taken out,
    pub gone_after_cancel : (timer : Timer) → found (without s timer) gone ≡ None
    gone_after_cancel timer = none_found _ (without s timer) (all_filter _ _ s (none_passes _ s none))

    -- or given another time,
    pub gone_after_move : (timer : Timer) (e : (T × ℕ) × (Timer × V)) (k : T × ℕ) (value : V) → found s timer ≡ Some e
        → found (put (by_time_then_turn cmp) (without s timer) k (timer, value)) gone ≡ None
    gone_after_move timer e k value there =
        none_found _ (put (by_time_then_turn cmp) (without s timer) k (timer, value))
        (has_not_put cmp (without s timer) k timer value gone (all_filter _ _ s (none_passes _ s none))
        (same_false timer gone (λ same. let no : None ≡ Some e = sym none ∙ ap (found s) (sym same) ∙ there in absurd cc)))

    -- nor once the first came out, or all that were due.
    pub gone_after_pop : (e : (T × ℕ) × (Timer × V)) (rest : List ((T × ℕ) × (Timer × V))) → s ≡ e ∷ rest → found rest gone ≡ None
    gone_after_pop e rest is = none_found _ rest (subst (λ l. AllByRecursion (λ x. is_same (timer_of x) gone ≡ false) l) is (none_passes _ s none)).1

    pub gone_after_drain : (now : T) → found (due_after cmp s now) gone ≡ None
    gone_after_drain now = none_found _ (due_after cmp s now) (all_filter _ _ s (none_passes _ s none))

  -- A timer that was taken out is not found, and each other as it was.
  pub found_cancelled : (timer : Timer) → found (without s timer) timer ≡ None
  found_cancelled timer = none_found _ (without s timer) (all_out _ _ s (all_same s))
    where
      one : (b : Bool) → not b ≡ true → b ≡ false
      one true h = absurd cc
      one false h = refl

      all_same : (s : List ((T × ℕ) × (Timer × V))) → AllByRecursion (λ e. not (is_same (timer_of e) timer) ≡ true → is_same (timer_of e) timer ≡ false) s
      all_same [] = tt
      all_same (e ∷ s) = (one (is_same (timer_of e) timer), all_same s)

-- A timer is found in a copy of a queue where it is found in the queue, at the same time and turn, with a copy of its value.
pub found_copied : {T V : Type 0} (same : V → V → Type 0) (s t : List ((T × ℕ) × (Timer × V))) → AllZip (IsCopy same) s t → (timer : Timer)
    → SameContents (IsCopy same) (found s timer) (found t timer)
found_copied same [] [] z timer = tt
found_copied same [] (y ∷ t) z timer = absurd z
found_copied same (x ∷ s) [] z timer = absurd z
found_copied same (x ∷ s) (y ∷ t) z timer =
    go (is_same (timer_of x) timer) (is_same (timer_of y) timer) (ap (λ h. is_same h timer) z.0.1) (found_copied same s t z.1 timer)
  where
    go : (b c : Bool) → c ≡ b → SameContents (IsCopy same) (found s timer) (found t timer)
        → SameContents (IsCopy same) (cond b (Some x) (found s timer)) (cond c (Some y) (found t timer))
    go true true e rest = z.0
    go true false e rest = absurd cc
    go false true e rest = absurd cc
    go false false e rest = rest
