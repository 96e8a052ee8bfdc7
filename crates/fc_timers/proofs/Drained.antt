-- Timers that came out one after another, and one more.
use Rattle.std.proofs.Common.{◌≡◌, ℕ, true, false, List, [], ◌∷◌, ◌++◌, refl, sym, ap, subst, ◌∙◌}
use Rattle.std.proofs.lemmas.List.{append_assoc, append-nil}
use Rattle.std.proofs.lemmas.List.Elements.{filter-append, recursion_from_All}
use Rattle.std.specs.List.{AllByRecursion}
use Rattle.std.specs.Ordering.{is_gt, is_le}
use Rattle.std.specs.declared.cmp.Ordering.{Ordering}
use Rattle.std.specs.declared.cmp.Ordering.TheVariants.{Less, Equal, Greater}
use Rattle.fc_base.proofs.AscendingFacts.{all_map, kept, left_out}
use Rattle.fc_timers.specs.declared.timer.Timer.{Timer}
use Rattle.fc_timers.specs.Timers.{HandsInTurn, NoneDue, due_after, due_by, time_of}

late : (r : Ordering) → is_gt r ≡ true → is_le r ≡ false
late Less h = absurd cc
late Equal h = absurd cc
late Greater h = refl

early : (r : Ordering) → is_le r ≡ true → is_gt r ≡ false
early Less h = refl
early Equal h = refl
early Greater h = absurd cc

module _ {T V F : Type 0} (cmp : T → T → Ordering) (R : F → (T × ℕ) × (Timer × V) → F → Type 0) (now : T) where
  -- Timers that were due, the first of the list, were handed out in turn, which took f to f'.
  pub record IsDrained (f f' : F) (old new : List ((T × ℕ) × (Timer × V))) : Type 0 where
    pub handed : List ((T × ℕ) × (Timer × V))
    pub joined : old ≡ handed ++ new
    pub due : AllByRecursion (λ e. is_le (cmp (time_of e) now) ≡ true) handed
    pub in_turn : HandsInTurn R f handed f'

  pub none_drained : (f : F) (s : List ((T × ℕ) × (Timer × V))) → IsDrained f f s s
  none_drained f s = record { handed = []; joined = refl; due = tt; in_turn = refl }

  one_due : (s : List ((T × ℕ) × (Timer × V))) (e : (T × ℕ) × (Timer × V)) → AllByRecursion (λ e. is_le (cmp (time_of e) now) ≡ true) s
      → is_le (cmp (time_of e) now) ≡ true → AllByRecursion (λ e. is_le (cmp (time_of e) now) ≡ true) (s ++ e ∷ [])
  one_due [] e a due = (due, tt)
  one_due (x ∷ s) e a due = (a.0, one_due s e a.1 due)

  one_more : (s : List ((T × ℕ) × (Timer × V))) (e : (T × ℕ) × (Timer × V)) (f g h : F) → HandsInTurn R f s g → R g e h → HandsInTurn R f (s ++ e ∷ []) h
  one_more [] e f g h turns called = (h, subst (λ x. R x e h) turns called, refl)
  one_more (x ∷ s) e f g h turns called = (turns.0, turns.1, one_more s e turns.0 g h turns.2 called)

  pub drained_further : (f g h : F) (old q new : List ((T × ℕ) × (Timer × V))) (e : (T × ℕ) × (Timer × V)) → IsDrained f g old q → q ≡ e ∷ new
      → is_le (cmp (time_of e) now) ≡ true → R g e h → IsDrained f h old new
  drained_further f g h old q new e drained head due called = record {
    handed = drained.handed ++ e ∷ [];
    joined = drained.joined ∙ ap (λ l. drained.handed ++ l) head ∙ sym (append_assoc drained.handed (e ∷ []) new);
    due = one_due drained.handed e drained.due due;
    in_turn = one_more drained.handed e f g h drained.in_turn called;
  }

  -- Where none is due any more, they are all that were, and the others are left.
  pub all_drained : (f f' : F) (old new : List ((T × ℕ) × (Timer × V))) → IsDrained f f' old new → NoneDue cmp new now
      → (new ≡ due_after cmp old now) × HandsInTurn R f (due_by cmp old now) f'
  all_drained f f' old new drained none =
      let later = recursion_from_All _ new none in
      let by_is : due_by cmp old now ≡ drained.handed =
      ap (λ l. due_by cmp l now) drained.joined ∙ filter-append _ drained.handed new
      ∙ ap (λ l. l ++ due_by cmp new now) (kept _ drained.handed drained.due)
      ∙ ap (λ l. drained.handed ++ l) (left_out _ new (all_map _ _ (λ e h. late (cmp (time_of e) now) h) new later))
      ∙ append-nil drained.handed in
      let after_is : due_after cmp old now ≡ new =
      ap (λ l. due_after cmp l now) drained.joined ∙ filter-append _ drained.handed new
      ∙ ap (λ l. l ++ due_after cmp new now) (left_out _ drained.handed (all_map _ _ (λ e h. early (cmp (time_of e) now) h) drained.handed drained.due))
      ∙ kept _ new later in
      (sym after_is, subst (λ l. HandsInTurn R f l f') (sym by_is) drained.in_turn)
