-- What the operations on two sets answer: copies of what a walk lends.
use Rattle.std.proofs.Common.{◌≡◌, ◌↔◌, Bool, true, false, List, [], ◌∷◌, ◌++◌, map, Option, Some, None, Result, Ok, Err, IfOk, refl, sym, ap, ◌∙◌}
use Rattle.std.proofs.Common.{append_assoc, append-nil}
use Rattle.std.specs.Prelude.{IsTrue}
use Rattle.std.specs.Iterator.{AlwaysYields}
use Rattle.std.specs.List.{AllZip}
use Rattle.std.proofs.lemmas.List.{map-append}
use Rattle.std.proofs.lemmas.List.Elements.{same_from_all_zip}
use denote.Ref.{Bor}
use Rattle.fc_base.specs.declared.try_reserve_error.TryReserveError.{TryReserveError}
use Rattle.fc_base.specs.Copies.{IsExact}
use Rattle.fc_map.specs.Entries.{Map}
use Rattle.fc_set.specs.Items.{items}
use Rattle.fc_command.specs.SetStep.{has_none}

-- a test that holds just where the list is empty is the table's
pub none_flag : {A : Type 0} (b : Bool) (s : List A) → (IsTrue b ↔ (s ≡ [])) → b ≡ has_none s
none_flag true [] h = refl
none_flag true (x ∷ s) h = let e = h.0 refl in absurd cc
none_flag false [] h = h.1 refl
none_flag false (x ∷ s) h = refl

module _ {S T : Type 0} (steps : S → Option (Bor T) → S → Type 0) where
  -- An item that a walk gives is the first of those that it had left.
  some_left : (s j : S) (x : Bor T) (left : List T) → AlwaysYields steps (λ x. x.now) s left → steps s (Some x) j
      → (rest : List T) × (left ≡ x.now ∷ rest) × AlwaysYields steps (λ x. x.now) j rest
  some_left s j x [] a h = absurd (a x j h)
  some_left s j x (y ∷ left) a h = (left, ap (λ z. z ∷ left) (sym (a.1 x j h).0), (a.1 x j h).1)

  none_left : (s j : S) (left : List T) → AlwaysYields steps (λ x. x.now) s left → steps s None j → left ≡ []
  none_left s j [] a h = refl
  none_left s j (y ∷ left) a h = absurd (a.0 j h)

  module _ (all : List T) where
    -- A front of the items was copied, and the walk has the others left.
    pub record IsCopiedSoFar (copies : List (Option T)) (walk : S) : Type 0 where
      pub done : List T
      pub left : List T
      pub gives : AlwaysYields steps (λ x. x.now) walk left
      pub parted : all ≡ done ++ left
      pub copied : copies ≡ map Some done

    pub copied_start : (copies : List (Option T)) (s : S) → copies ≡ [] → AlwaysYields steps (λ x. x.now) s all → IsCopiedSoFar copies s
    copied_start copies s none a = record { done = []; left = all; gives = a; parted = refl; copied = none }

    pub copied_more : (copies : List (Option T)) (s j : S) (x : Bor T) (y : T) → IsCopiedSoFar copies s → steps s (Some x) j → y ≡ x.now
        → IsCopiedSoFar (copies ++ Some y ∷ []) j
    copied_more copies s j x y f h e =
        let l = some_left s j x f.left f.gives h in
        record {
          done = f.done ++ x.now ∷ [];
          left = l.0;
          gives = l.2;
          parted = f.parted ∙ ap (λ r. f.done ++ r) l.1 ∙ sym (append_assoc f.done (x.now ∷ []) l.0);
          copied = ap (λ c. copies ++ Some c ∷ []) e ∙ ap (λ c. c ++ Some x.now ∷ []) f.copied ∙ sym (map-append Some f.done (x.now ∷ []));
        }

    -- where the item that it gave next stands among all
    pub next_left : (copies : List (Option T)) (s j : S) (x : Bor T) → IsCopiedSoFar copies s → steps s (Some x) j
        → (done rest : List T) × (all ≡ done ++ x.now ∷ rest)
    next_left copies s j x f h = let l = some_left s j x f.left f.gives h in (f.done, l.0, f.parted ∙ ap (λ r. f.done ++ r) l.1)

    pub copied_all : (copies : List (Option T)) (s j : S) → IsCopiedSoFar copies s → steps s None j → copies ≡ map Some all
    copied_all copies s j f h =
        let none = none_left s j f.left f.gives h in
        f.copied ∙ ap (map Some) (sym (f.parted ∙ ap (λ r. f.done ++ r) none ∙ append-nil f.done))

-- where it was answered, exact copies are the items themselves
pub exact_items : {K V Z : Type 0} (same : K → K → Type 0) → IsExact same → (r : Result (Map K V Z) TryReserveError) (s : List K)
    → IfOk r (λ made. AllZip same s (items made)) → IfOk r (λ made. items made ≡ s)
exact_items same exact (Ok made) s copied = same_from_all_zip same s (items made) copied exact
exact_items same exact (Err e) s copied = tt
