-- The list of the slots where no timer stands, and how it changes.
use Rattle.std.proofs.Common.{◌≡◌, ◌≢◌, ℕ, zero, suc, ◌^◌, ◌<◌, ◌≤◌, List, [], ◌∷◌}
use Rattle.std.proofs.Common.{◌++◌, length, get_or, set, Option, Some, None, refl, sym, ap, subst, ◌∙◌, arith}
use Rattle.std.proofs.lemmas.List.{get_or-set_same, get_or-set_other, get_or_push, get_or_append_left, length-set, length_push}
use Rattle.fc_timers.specs.declared.timer.Armed.{Armed}
use Rattle.fc_timers.specs.Heap.{IsVacantList}
use Rattle.fc_timers.proofs.Standing.{get_or_push_none}

module _ {T V : Type 0} where
  -- A slot starts one list at most.
  unique : (h : List (Option (Armed T V))) (x : List ℕ) (m n k : ℕ) → length h < 2 ^ 64 → IsVacantList h x m k → IsVacantList h x n k → m ≡ n
  unique h x zero zero k fits p q = refl
  unique h x zero (suc n) k fits p q = absurd (omega (arith, q.0))
  unique h x (suc m) zero k fits p q = absurd (omega (arith, p.0))
  unique h x (suc m) (suc n) k fits p q = ap suc (unique h x m n (get_or x k 0) fits p.2 q.2)

  -- A list stays where the slots that it names do: where all but one do, which it does not name.
  kept : (h more : List (Option (Armed T V))) (x next : List ℕ) (k : ℕ) → length h ≤ length more
      → ((j : ℕ) → j < length h → j ≢ k → (get_or more j None ≡ get_or h j None) × (get_or next j 0 ≡ get_or x j 0)) → (n from : ℕ)
      → ((m : ℕ) → m < n → IsVacantList h x (suc m) k → ⊥) → IsVacantList h x n from → IsVacantList more next n from
  kept h more x next k longer same zero from off p = p
  kept h more x next k longer same (suc n) from off p =
      let other : from ≢ k = λ e. off n (omega arith) (subst (IsVacantList h x (suc n)) e p) in
      let there = same from p.0 other in
      let rest = kept h more x next k longer same n (get_or x from 0) (λ m below. off m (omega arith)) p.2 in
      (omega (arith, p.0), there.0 ∙ p.1, subst (IsVacantList more next n) (sym there.1) rest)

  module _ (h : List (Option (Armed T V))) (x : List ℕ) (n k : ℕ) where
    -- The rest of the list, once its first slot has a timer.
    pub listed_rest : length h < 2 ^ 64 → (o : Option (Armed T V)) → IsVacantList h x (suc n) k → IsVacantList (set h k o) x n (get_or x k 0)
    listed_rest fits o p =
        kept h (set h k o) x x k (omega (arith, length-set h k o)) (λ j within other. (get_or-set_other h k j o None other, refl)) n (get_or x k 0)
        (λ m below q. omega (arith, unique h x (suc n) (suc m) k fits p q)) p.2

    -- A slot that held a timer stands before the list that it names.
    pub listed_before : (a : Armed T V) → length x ≡ length h → k < length h → get_or h k None ≡ Some a → (from : ℕ) → IsVacantList h x n from
        → IsVacantList (set h k None) (set x k from) (suc n) k
    listed_before a same within held from p =
        let rest = kept h (set h k None) x (set x k from) k (omega (arith, length-set h k None))
        (λ j inside other. (get_or-set_other h k j None None other, get_or-set_other x k j from 0 other)) n from
        (λ m below q. let none = q.1 in cc) p in (
          omega (arith, length-set h k None),
          get_or-set_same h k None None within,
          subst (IsVacantList (set h k None) (set x k from) n) (sym (get_or-set_same x k from 0 (omega arith))) rest,
        )

    -- A timer written anew keeps the list.
    pub listed_still : (a : Armed T V) (o : Option (Armed T V)) → get_or h k None ≡ Some a → (from : ℕ) → IsVacantList h x n from
        → IsVacantList (set h k o) x n from
    listed_still a o held from p =
        kept h (set h k o) x x k (omega (arith, length-set h k o)) (λ j within other. (get_or-set_other h k j o None other, refl)) n from
        (λ m below q. let none = q.1 in cc) p

  -- A new slot stands before the list that it names.
  pub listed_new : (h : List (Option (Armed T V))) (x : List ℕ) (n from : ℕ) → length x ≡ length h → IsVacantList h x n from
      → IsVacantList (h ++ None ∷ []) (x ++ from ∷ []) (suc n) (length h)
  listed_new h x n from same p =
      let rest = kept h (h ++ None ∷ []) x (x ++ from ∷ []) (length h) (omega (arith, length_push h None))
      (λ j within other. (get_or_push_none h j, get_or_append_left x (from ∷ []) 0 j (omega arith))) n from
      (λ m below q. omega (arith, q.0)) p in (
        omega (arith, length_push h None),
        get_or_push h None None (length h) refl,
        subst (IsVacantList (h ++ None ∷ []) (x ++ from ∷ []) n) (sym (get_or_push x from 0 (length h) same)) rest,
      )

  -- The same of an equal list of slots, of which the vacant ones lead where they led.
  pub listed_as : (h more : List (Option (Armed T V))) (x next : List ℕ) (n k : ℕ) → more ≡ h
      → ((j : ℕ) → get_or more j None ≡ None → get_or next j 0 ≡ get_or x j 0) → IsVacantList h x n k → IsVacantList more next n k
  listed_as h more x next zero k e f p = p
  listed_as h more x next (suc n) k e f p =
      let none : get_or more k None ≡ None = ap (λ l. get_or l k None) e ∙ p.1 in
      let rest = listed_as h more x next n (get_or x k 0) e f p.2 in
      (omega (arith, p.0, ap length e), none, subst (IsVacantList more next n) (sym (f k none)) rest)
