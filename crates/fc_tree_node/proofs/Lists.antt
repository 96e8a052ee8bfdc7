-- Lists with an item set, put in or left out, and facts of each item.
use Rattle.std.proofs.Common.{◌≡◌, ℕ, suc, zero, ◌+◌, ◌<◌, ◌≤◌, List, [], ◌∷◌, ◌++◌, length, get_or, take, drop, refl, sym, ap, subst, ◌∙◌, arith, add-one}
use Rattle.std.specs.Prelude.{slice_set}
use Rattle.std.specs.List.{AllByRecursion, insert, remove}

module _ {X : Type 0} where
  pub take_nil : (i : ℕ) → take i (let xs : List X = [] in xs) ≡ []
  take_nil zero = refl
  take_nil (suc i) = refl

  pub drop_nil : (i : ℕ) → drop i (let xs : List X = [] in xs) ≡ []
  drop_nil zero = refl
  drop_nil (suc i) = refl

  pub length_take : (i : ℕ) (xs : List X) → i ≤ length xs → length (take i xs) ≡ i
  length_take zero xs h = refl
  length_take (suc i) [] h = absurd (omega arith)
  length_take (suc i) (x ∷ xs) h = ap suc (length_take i xs (omega arith))

  pub take_drop : (i : ℕ) (xs : List X) → take i xs ++ drop i xs ≡ xs
  take_drop zero xs = refl
  take_drop (suc i) [] = refl
  take_drop (suc i) (x ∷ xs) = ap (λ zs. x ∷ zs) (take_drop i xs)

  -- a list with another item in a place, as what stands around it
  pub set_is : (cs : List X) (i : ℕ) (c : X) → i < length cs → slice_set cs i c ≡ take i cs ++ c ∷ drop (suc i) cs
  set_is [] i c h = absurd (omega arith)
  set_is (b ∷ cs) zero c h = refl
  set_is (b ∷ cs) (suc i) c h = ap (λ zs. b ∷ zs) (set_is cs i c (omega arith))

  set_put_suc : (cs : List X) (i : ℕ) (c r : X) → i < length cs → insert (slice_set cs i c) (suc i) r ≡ take i cs ++ c ∷ r ∷ drop (suc i) cs
  set_put_suc [] i c r h = absurd (omega arith)
  set_put_suc (b ∷ cs) zero c r h = refl
  set_put_suc (b ∷ cs) (suc i) c r h = ap (λ zs. b ∷ zs) (set_put_suc cs i c r (omega arith))

  pub set_put : (cs : List X) (i : ℕ) (c r : X) → i < length cs → insert (slice_set cs i c) (i + 1) r ≡ take i cs ++ c ∷ r ∷ drop (suc i) cs
  set_put cs i c r h = ap (λ k. insert (slice_set cs i c) k r) (add-one i) ∙ set_put_suc cs i c r h

  pub length_set : (xs : List X) (i : ℕ) (x : X) → length (slice_set xs i x) ≡ length xs
  length_set [] i x = refl
  length_set (y ∷ xs) zero x = refl
  length_set (y ∷ xs) (suc i) x = ap suc (length_set xs i x)

  set_next_suc : (xs : List X) (i : ℕ) (x y : X) → slice_set (slice_set xs (suc i) y) i x ≡ slice_set (slice_set xs i x) (suc i) y
  set_next_suc [] zero x y = refl
  set_next_suc [] (suc i) x y = refl
  set_next_suc (z ∷ xs) zero x y = refl
  set_next_suc (z ∷ xs) (suc i) x y = ap (λ zs. z ∷ zs) (set_next_suc xs i x y)

  -- two places that are set in either order
  pub set_next : (xs : List X) (i : ℕ) (x y : X) → slice_set (slice_set xs (i + 1) y) i x ≡ slice_set (slice_set xs i x) (i + 1) y
  set_next xs i x y = rw add-one (set_next_suc xs i x y)

  set_around_suc : (xs : List X) (i : ℕ) (x y : X) → suc i < length xs
      → insert (slice_set (remove xs (suc i)) i x) (suc i) y ≡ slice_set (slice_set xs i x) (suc i) y
  set_around_suc [] i x y h = absurd (omega arith)
  set_around_suc (a ∷ []) i x y h = absurd (omega arith)
  set_around_suc (a ∷ b ∷ xs) zero x y h = refl
  set_around_suc (a ∷ b ∷ xs) (suc i) x y h = ap (λ zs. a ∷ zs) (set_around_suc (b ∷ xs) i x y (omega arith))

  -- an item taken out and put back, round a write to the one before it
  pub set_around : (xs : List X) (i : ℕ) (x y : X) → i + 1 < length xs
      → insert (slice_set (remove xs (i + 1)) i x) (i + 1) y ≡ slice_set (slice_set xs i x) (i + 1) y
  set_around xs i x y h = rw add-one (set_around_suc xs i x y (rw add-one at h))

  -- some item of a list that has one
  pub item_in : (xs : List X) → 0 < length xs → X
  item_in [] h = absurd (omega arith)
  item_in (x ∷ xs) h = x

-- a fact of each item
module _ {X : Type 0} (P : X → Type 0) where
  pub all_each : (Q : X → Type 0) → ((x : X) → P x → Q x) → (xs : List X) → AllByRecursion P xs → AllByRecursion Q xs
  all_each Q f [] a = tt
  all_each Q f (x ∷ xs) a = (f x a.0, all_each Q f xs a.1)

  pub all_front : (xs ys : List X) → AllByRecursion P (xs ++ ys) → AllByRecursion P xs
  all_front [] ys a = tt
  all_front (x ∷ xs) ys a = (a.0, all_front xs ys a.1)

  pub all_back : (xs ys : List X) → AllByRecursion P (xs ++ ys) → AllByRecursion P ys
  all_back [] ys a = a
  all_back (x ∷ xs) ys a = all_back xs ys a.1

  pub all_both : (xs ys : List X) → AllByRecursion P xs → AllByRecursion P ys → AllByRecursion P (xs ++ ys)
  all_both [] ys a b = b
  all_both (x ∷ xs) ys a b = (a.0, all_both xs ys a.1 b)

  pub all_take : (i : ℕ) (xs : List X) → AllByRecursion P xs → AllByRecursion P (take i xs)
  all_take i xs a = all_front (take i xs) (drop i xs) (subst (AllByRecursion P) (sym (take_drop i xs)) a)

  pub all_drop : (i : ℕ) (xs : List X) → AllByRecursion P xs → AllByRecursion P (drop i xs)
  all_drop i xs a = all_back (take i xs) (drop i xs) (subst (AllByRecursion P) (sym (take_drop i xs)) a)

  pub all_set : (xs : List X) (i : ℕ) (x : X) → AllByRecursion P xs → P x → AllByRecursion P (slice_set xs i x)
  all_set [] i x a p = tt
  all_set (y ∷ xs) zero x a p = (p, a.1)
  all_set (y ∷ xs) (suc i) x a p = (a.0, all_set xs i x a.1 p)

  pub all_put : (xs : List X) (i : ℕ) (x : X) → AllByRecursion P xs → P x → AllByRecursion P (insert xs i x)
  all_put xs zero x a p = (p, a)
  all_put [] (suc i) x a p = (p, tt)
  all_put (y ∷ xs) (suc i) x a p = (a.0, all_put xs i x a.1 p)

  pub all_at : (xs : List X) (i : ℕ) (d : X) → i < length xs → AllByRecursion P xs → P (get_or xs i d)
  all_at [] i d h a = absurd (omega arith)
  all_at (x ∷ xs) zero d h a = a.0
  all_at (x ∷ xs) (suc i) d h a = all_at xs i d (omega arith) a.1
