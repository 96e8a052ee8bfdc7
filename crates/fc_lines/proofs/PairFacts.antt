-- How pairs of numbers are read, one more at a time.
use Rattle.std.proofs.Common.{◌≡◌, ℕ, ◌<◌, List, [], ◌∷◌, ◌++◌, length, Option, Some, None, Bool, true, false, eqb, IfSome, if◌then◌else◌, refl, sym, ap, ◌∙◌}
use Rattle.std.proofs.Common.{arith, append_assoc, append-nil}
use Rattle.std.specs.Prelude.{nat_lt}
use Rattle.std.specs.Option.{option_map}
use Rattle.std.proofs.lemmas.Bool.Decides.{nat_tests}
use Rattle.fc_lines.specs.Lines.{words_of, onto_first}
use Rattle.fc_lines.specs.Grammar.{◌>>=◌, number_of, number_at, pair_at, all_pairs, some_pairs}

-- what was read so far, and what the rest is read as
abbrev pub ReadsPairs : List (List ℕ) → List (ℕ × ℕ) → List (List ℕ) → Type 0
ReadsPairs all read rest = all_pairs all ≡ option_map (λ ys. read ++ ys) (all_pairs rest)

-- a number and the words after it, and the pair that it begins
abbrev after : List (List ℕ) → Option ℕ → Option (ℕ × List (List ℕ))
after words o = o >>= λ n. Some (n, words)

abbrev paired : Option (ℕ × List (List ℕ)) → Option ((ℕ × ℕ) × List (List ℕ))
paired o = o >>= λ k. number_at k.1 >>= λ v. Some ((k.0, v.0), v.1)

-- the first pair before those after it
abbrev before_rest : Option ((ℕ × ℕ) × List (List ℕ)) → Option (List (ℕ × ℕ))
before_rest o = o >>= λ p. option_map (λ ys. p.0 ∷ ys) (all_pairs p.1)

first_pair : (words : List (List ℕ)) → 0 < length words → all_pairs words ≡ before_rest (pair_at words)
unfolding pair_at number_at
first_pair [] h = absurd (omega arith)
first_pair (k ∷ []) h = elim (number_of k) as (λ a. None ≡ before_rest (paired (after [] a))) [ None ↦ refl | Some n ↦ refl ]
first_pair (k ∷ v ∷ words) h = elim (number_of k) as (λ a. (a >>= λ x. number_of v >>= λ y. option_map (λ pairs. (x, y) ∷ pairs) (all_pairs words))
    ≡ before_rest (paired (after (v ∷ words) a))) [
      | None ↦ refl
      | Some x ↦ elim (number_of v) as (λ b. (b >>= λ y. option_map (λ pairs. (x, y) ∷ pairs) (all_pairs words))
          ≡ before_rest (after words b >>= λ value. Some ((x, value.0), value.1))) [ None ↦ refl | Some y ↦ refl ]
    ]

-- fewer words than n are left after a pair
abbrev IsShort : ℕ → Option ((ℕ × ℕ) × List (List ℕ)) → Type 0
IsShort n o = IfSome o (λ p. length p.1 < n)

short : (words : List (List ℕ)) → IsShort (length words) (pair_at words)
unfolding pair_at number_at
short [] = tt
short (k ∷ []) = elim (number_of k) as (λ a. IsShort 1 (paired (after [] a))) [ None ↦ tt | Some n ↦ tt ]
short (k ∷ v ∷ words) = let two_more : length words < length (k ∷ v ∷ words) = omega arith in
    elim (number_of k) as (λ a. IsShort (length (k ∷ v ∷ words)) (paired (after (v ∷ words) a))) [
      | None ↦ tt
      | Some x ↦ elim (number_of v) as (λ b. IsShort (length (k ∷ v ∷ words)) (after words b >>= λ value. Some ((x, value.0), value.1))) [
        | None ↦ tt
        | Some y ↦ two_more
      ]
    ]

pub pairs_shorter : (words later : List (List ℕ)) (p : ℕ × ℕ) → pair_at words ≡ Some (p, later) → length later < length words
pairs_shorter words later p e = rw e at (short words)

onto_some : (x : ℕ) (words : List (List ℕ)) → 0 < length (onto_first x words)
onto_some x [] = omega arith
onto_some x (word ∷ words) = omega arith

-- a line has at least one word
pub some_words : (line : List ℕ) → 0 < length (words_of line)
some_words [] = omega arith
some_words (x ∷ line) = elim (eqb x 32) as (λ b. 0 < length (if b then [] ∷ words_of line else onto_first x (words_of line))) [
  | true ↦ omega arith
  | false ↦ onto_some x (words_of line)
]

-- one pair more was read
pub pairs_more : (all words later : List (List ℕ)) (read : List (ℕ × ℕ)) (p : ℕ × ℕ) → pair_at words ≡ Some (p, later) → ReadsPairs all read words
    → ReadsPairs all (read ++ p ∷ []) later
pairs_more all words later read p e r =
    let h : 0 < length words = omega (arith, pairs_shorter words later p e) in
    r ∙ ap (option_map (λ ys. read ++ ys)) (rw e at (first_pair words h)) ∙ on (all_pairs later)
  where
    on : (o : Option (List (ℕ × ℕ))) → option_map (λ ys. read ++ ys) (option_map (λ ys. p ∷ ys) o) ≡ option_map (λ ys. (read ++ p ∷ []) ++ ys) o
    on None = refl
    on (Some ys) = ap Some (sym (append_assoc read (p ∷ []) ys))

-- the words that are left write no pair
pub pairs_not : (all words : List (List ℕ)) (read : List (ℕ × ℕ)) → 0 < length words → pair_at words ≡ None → ReadsPairs all read words → None ≡ some_pairs all
pairs_not all words read h e r =
    let none : all_pairs all ≡ None = r ∙ ap (option_map (λ ys. read ++ ys)) (rw e at (first_pair words h)) in
    rw none (sym (same _))
  where
    same : (b : Bool) → ◌≡◌ {A = Option (List (ℕ × ℕ))} (if b then None else None) None
    same true = refl
    same false = refl

-- no word is left
pub pairs_read : (all : List (List ℕ)) (read : List (ℕ × ℕ)) → 0 < length all → ReadsPairs all read [] → Some read ≡ some_pairs all
pairs_read all read h r =
    let some : nat_lt 0 (length all) ≡ true = grind (arith, nat_tests) in
    let told : all_pairs all ≡ Some read = r ∙ ap Some (append-nil read) in
    rw (some, told) refl
