-- Times with turns are in a total order.
use Rattle.std.proofs.Common.{◌≡◌, ℕ, Bool, true, false, refl, sym, ap, ◌∙◌, arith}
use Rattle.std.proofs.lemmas.Bool.{leb-true, leb-false, le-leb}
use Rattle.std.proofs.lemmas.Cmp.{alike_right, tied_itself}
use Rattle.std.specs.Prelude.{leb}
use Rattle.std.specs.Cmp.{IsTotalOrder}
use Rattle.std.specs.Ordering.{ordering_reverse}
use Rattle.std.specs.declared.cmp.Ordering.{Ordering}
use Rattle.std.specs.declared.cmp.Ordering.TheVariants.{Less, Equal, Greater}
use Rattle.fc_timers.specs.Slotted.{by_turn, due_first}

turned : (r : Ordering) (b c : Bool) → (b ≡ false → c ≡ true) → by_turn (ordering_reverse r) b ≡ false → by_turn r c ≡ true
turned Less b c turns h = refl
turned Equal b c turns h = turns h
turned Greater b c turns h = absurd cc

module _ {T : Type 0} {cmp : T → T → Ordering} (o : IsTotalOrder cmp) where
  pub due_first_itself : (s : T) (m : ℕ) → due_first cmp s m s m ≡ true
  due_first_itself s m = ap (λ r. by_turn r (leb m m)) (tied_itself o s) ∙ le-leb m m (omega arith)

  pub due_first_turned : (s : T) (m : ℕ) (t : T) (n : ℕ) → due_first cmp s m t n ≡ false → due_first cmp t n s m ≡ true
  due_first_turned s m t n h =
      turned (cmp t s) (leb m n) (leb n m) (λ later. le-leb n m (omega (arith, leb-false m n later))) (sym (ap (λ r. by_turn r (leb m n)) (o.antisymm s t)) ∙ h)

  chained : (s t u : T) (m n p : ℕ) (r q : Ordering) → cmp s t ≡ r → cmp t u ≡ q → by_turn r (leb m n) ≡ true → by_turn q (leb n p) ≡ true
      → by_turn (cmp s u) (leb m p) ≡ true
  chained s t u m n p Less Less e f h k = ap (λ x. by_turn x (leb m p)) (o.trans s t u e f)
  chained s t u m n p Less Equal e f h k = ap (λ x. by_turn x (leb m p)) (sym (alike_right o t u s f) ∙ e)
  chained s t u m n p Less Greater e f h k = absurd cc
  chained s t u m n p Equal Less e f h k = ap (λ x. by_turn x (leb m p)) (o.congr s t u e ∙ f)
  chained s t u m n p Equal Equal e f h k = ap (λ x. by_turn x (leb m p)) (o.congr s t u e ∙ f) ∙ le-leb m p (omega (arith, leb-true m n h, leb-true n p k))
  chained s t u m n p Equal Greater e f h k = absurd cc
  chained s t u m n p Greater q e f h k = absurd cc

  pub due_first_chained : (s : T) (m : ℕ) (t : T) (n : ℕ) (u : T) (p : ℕ) → due_first cmp s m t n ≡ true → due_first cmp t n u p ≡ true
      → due_first cmp s m u p ≡ true
  due_first_chained s m t n u p h k = chained s t u m n p (cmp s t) (cmp t u) refl refl h k
