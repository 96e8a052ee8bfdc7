-- No two timers of a queue have one turn.
use Rattle.std.proofs.Common.{◌≡◌, ℕ, true, false, Option, Some, None, refl, sym, ap, ◌∙◌}
use Rattle.std.proofs.lemmas.Bool.{eqb-true, eq-eqb}
use Rattle.std.proofs.lemmas.List.Elements.{All-from_recursion}
use Rattle.std.specs.Cmp.{IsTotalOrder}
use Rattle.std.specs.List.{AllByRecursion, find}
use Rattle.std.specs.Prelude.{◌==◌}
use Rattle.std.specs.declared.cmp.Ordering.{Ordering}
use Rattle.fc_base.specs.Parts.{at}
use Rattle.fc_timers.specs.declared.timer.Timer.{Timer}
use Rattle.fc_timers.specs.declared.timer.Armed.{Armed}
use Rattle.fc_timers.specs.Slotted.{AreGivenOut, Slotted, armed}
use Rattle.fc_timers.specs.Timers.{HaveTurnsApart, by_time_then_turn, timer_of, turn_of}
use Rattle.fc_timers.specs.InOrder.{entry, in_order}
use Rattle.fc_timers.proofs.Entries.{found_passes, none_passes, so_of_found}
use Rattle.fc_timers.proofs.OfQueue.{is_list, listed_ascends, order_total}
use Rattle.fc_timers.proofs.SameLists.{all_found, of_found}

module _ {T V : Type 0} (cmp : T → T → Ordering) (total : IsTotalOrder cmp) (q : Slotted T V) (given : AreGivenOut q) where
  each_stands : AllByRecursion (λ e. (a : Armed T V) × (armed q (timer_of e) ≡ Some a) × (e ≡ entry (timer_of e) a)) (in_order cmp q)
  each_stands = all_found (by_time_then_turn cmp) (order_total total) _ (in_order cmp q) (listed_ascends total 0 q.slots)
      (λ e h. (is_list total q given.distinct).each e.0 e h)

  -- the first entry with the turn of an entry is that one
  first_by_turn : (e : (T × ℕ) × (Timer × V)) → at (by_time_then_turn cmp) (in_order cmp q) e.0 ≡ Some e
      → find (λ other. turn_of other == turn_of e) (in_order cmp q) ≡ Some e
  first_by_turn e there = go (find (λ other. turn_of other == turn_of e) (in_order cmp q)) refl
    where
      go : (o : Option ((T × ℕ) × (Timer × V))) → find (λ other. turn_of other == turn_of e) (in_order cmp q) ≡ o
          → find (λ other. turn_of other == turn_of e) (in_order cmp q) ≡ Some e
      go None f =
          let no : true ≡ false = sym (eq-eqb (turn_of e) (turn_of e) refl) ∙ of_found (by_time_then_turn cmp) _ (in_order cmp q) e.0 e
          (none_passes _ (in_order cmp q) f) there in
          absurd cc
      go (Some x) f =
          let is = so_of_found _ _ (in_order cmp q) each_stands x f in
          let was = (is_list total q given.distinct).each e.0 e there in
          let turns : is.0.turn ≡ was.0.turn =
          sym (ap (λ y. y.0.1) is.2) ∙ eqb-true x.0.1 e.0.1 (found_passes _ (in_order cmp q) x f) ∙ ap (λ y. y.0.1) was.2 in
          let timer : x.1.0 ≡ e.1.0 = given.distinct x.1.0 e.1.0 is.0 was.0 is.1 was.1 turns in
          let whole : is.0 ≡ was.0 = let both : Some is.0 ≡ Some was.0 = sym is.1 ∙ ap (armed q) timer ∙ was.1 in cc in
          f ∙ ap Some (is.2 ∙ (λ i. entry (timer i) (whole i)) ∙ sym was.2)

  -- So no two entries of the list have one.
  pub turns_in_order : HaveTurnsApart (in_order cmp q)
  turns_in_order =
      All-from_recursion _ (in_order cmp q) (all_found (by_time_then_turn cmp) (order_total total) _ (in_order cmp q)
      (listed_ascends total 0 q.slots) first_by_turn)
