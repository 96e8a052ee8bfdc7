-- Parts of a list between two places.
use Rattle.std.proofs.Common.{◌≡◌, ◌∙◌, ℕ, suc, zero, ◌+◌, ◌-◌, ◌≤◌, List, [], ◌∷◌, ◌++◌, length, take, drop, refl, sym, ap, arith, Some, slice_get}
use Rattle.std.proofs.Common.{length-append}
use Rattle.std.specs.Prelude.{slice_range}
use Rattle.fc_tree_cursor.specs.Span.{IsPart}
use Rattle.std.proofs.Math.Seq.{take-add, drop-append-add}
use Rattle.std.proofs.lemmas.List.{drop-drop, length-drop, take-append-le, drop-append-le}

module _ {X : Type 0} where
  pub slice_none : (xs : List X) (i j : ℕ) → i ≡ j → slice_range xs i j ≡ []
  slice_none xs i j e = let z : j - i ≡ 0 = omega arith in ap (λ k. take k (drop i xs)) z

  pub slice_length : (xs : List X) (i j : ℕ) → j ≤ length xs → length (slice_range xs i j) ≡ j - i
  slice_length xs i j h = let d = length-drop i xs in length_of (j - i) (drop i xs) (omega arith)
    where
      length_of : (n : ℕ) (ys : List X) → n ≤ length ys → length (take n ys) ≡ n
      length_of zero ys k = refl
      length_of (suc n) [] k = absurd (omega arith)
      length_of (suc n) (y ∷ ys) k = ap suc (length_of n ys (omega arith))

  pub slice_split : (xs : List X) (i j k : ℕ) → i ≤ j → j ≤ k → slice_range xs i k ≡ slice_range xs i j ++ slice_range xs j k
  slice_split xs i j k a b =
      let n : k - i ≡ (j - i) + (k - j) = omega arith in
      let s : i + (j - i) ≡ j = omega arith in
      ap (λ m. take m (drop i xs)) n ∙ take-add (j - i) (k - j) (drop i xs)
      ∙ ap (λ ys. take (j - i) (drop i xs) ++ take (k - j) ys) (drop-drop (j - i) i xs ∙ ap (λ m. drop m xs) s)

  pub slice_one : (xs : List X) (i : ℕ) (x : X) → slice_get xs i ≡ Some x → slice_range xs i (i + 1) ≡ x ∷ []
  slice_one xs i x e = let n : i + 1 - i ≡ 1 = omega arith in ap (λ m. take m (drop i xs)) n ∙ one xs i e
    where
      one : (xs : List X) (i : ℕ) → slice_get xs i ≡ Some x → take 1 (drop i xs) ≡ x ∷ []
      one [] i e = absurd cc
      one (y ∷ xs) zero e = let s : y ≡ x = cc in ap (λ z. z ∷ []) s
      one (y ∷ xs) (suc i) e = one xs i e

  pub slice_inner : (a l c : List X) (j k : ℕ) → j ≤ k → k ≤ length l → slice_range (a ++ (l ++ c)) (length a + j) (length a + k) ≡ slice_range l j k
  slice_inner a l c j k h f =
      let n : length a + k - (length a + j) ≡ k - j = omega arith in
      let d = length-drop j l in
      ap (λ m. take m (drop (length a + j) (a ++ (l ++ c)))) n ∙ ap (take (k - j)) (drop-append-add a (l ++ c) j ∙ drop-append-le j l c (omega arith))
      ∙ take-append-le (k - j) (drop j l) c (omega arith)

  -- What an end has taken, what is between, and what the other end has taken.
  pub parts_length : (head mid tail : List X) → length (head ++ (mid ++ tail)) ≡ length head + (length mid + length tail)
  parts_length head mid tail = length-append head (mid ++ tail) ∙ ap (λ n. length head + n) (length-append mid tail)

  -- The item between two parts.
  pub get_seam : (a b : List X) (x : X) → slice_get (a ++ x ∷ b) (length a) ≡ Some x
  get_seam [] b x = refl
  get_seam (y ∷ a) b x = get_seam a b x

  -- A part of a list's middle, in the list.
  pub part_inside : (s low l high run : List X) (i j a b : ℕ) → s ≡ low ++ (l ++ high) → IsPart run l i j
      → a ≡ length low + i → b ≡ length low + j → IsPart run s a b
  part_inside s low l high run i j a b is p e f =
      let all = ap length is ∙ length-append low (l ++ high) in
      let more = length-append l high in
      let le = p.0 in
      let fits = p.1 in (
        omega arith,
        omega arith,
        p.2 ∙ sym (ap (λ k. slice_range s k b) e ∙ ap (slice_range s (length low + i)) f ∙ ap (λ xs. slice_range xs (length low + i) (length low + j)) is
            ∙ slice_inner low l high i j le fits),
      )
