-- Words of bytes, and digits.
use Rattle.std.proofs.Common.{◌≡◌, ℕ, ◌+◌, ◌*◌, ◌-◌, ◌^◌, ◌<◌, ◌≤◌, suc, zero, ◌&&◌, eqb, List, [], ◌∷◌, length, take, drop, get_or, Some, None, refl, ◌∙◌}
use Rattle.std.proofs.Common.{arith, if◌then◌else◌, true, false, not, cond, one-add, add-one, IsTrue, Bool}
use Rattle.std.specs.Prelude.{nat_lt, position}
use Rattle.std.specs.List.{position_or_len, list_all}
use Rattle.std.specs.Char.{is_ascii_digit}
use Rattle.std.specs.Str.Parse.{digits_value}
use Rattle.std.proofs.lemmas.Bool.Decides.{nat_tests}
use Rattle.std.proofs.lemmas.Str.{digit_value_digit}
use Rattle.std.specs.Int.{IsInRange}
use Rattle.std.proofs.lemmas.Int.Digits.{digits_value_more}
use Rattle.std.proofs.lemmas.Str.Parse.{digits_value-take-le}
use Rattle.fc_lines.specs.Lines.{words_of, onto_first}
use Rattle.fc_lines.specs.Grammar.{whole_line}

ends_onto : {A : Type 0} (c : A) (x : ℕ) (ws : List (List ℕ)) → whole_line c (onto_first x ws) ≡ None
ends_onto c x [] = refl
ends_onto c x (w ∷ ws) = refl

-- a line has at least one word
pub ends_words : {A : Type 0} (c : A) (line : List ℕ) → whole_line c (words_of line) ≡ None
ends_words c [] = refl
ends_words c (x ∷ line) = elim (eqb x 32) as (λ b. whole_line c (if b then [] ∷ words_of line else onto_first x (words_of line)) ≡ None) [
  | true ↦ refl
  | false ↦ ends_onto c x (words_of line)
]

-- the first word ends at the first space, or the line is one word
abbrev pub Split : List ℕ → ℕ → Type 0
Split line n = (n < length line → words_of line ≡ take n line ∷ words_of (drop (n + 1) line)) × (length line ≤ n → words_of line ≡ line ∷ [])

split_more : (x : ℕ) (line : List ℕ) (n : ℕ) → eqb x 32 ≡ false → Split line n → Split (x ∷ line) (suc n)
split_more x line n other s = (
  λ h. rw (other, s.0 (omega arith)) (simp add-one),
  λ h. rw (other, s.1 (omega arith)) refl,
)

pub split : (line : List ℕ) → Split line (position_or_len (λ x. eqb x 32) line)
split [] = (λ h. absurd (omega arith), λ h. refl)
split (x ∷ line) = split_at x line (eqb x 32) refl (split line)
  where
    split_at : (x : ℕ) (line : List ℕ) (b : Bool) → eqb x 32 ≡ b → Split line (position_or_len (λ y. eqb y 32) line)
        → Split (x ∷ line) (cond (not b) (1 + position_or_len (λ y. eqb y 32) line) 0)
    split_at x line true e s = (λ h. rw e refl, λ h. absurd (omega arith))
    split_at x line false e s = rw one-add (split_more x line _ e s)

pub words_found : (line : List ℕ) (at : ℕ) → position (λ x. eqb x 32) line ≡ Some at → words_of line ≡ take at line ∷ words_of (drop (at + 1) line)
words_found line at e = grind (arith, nat_tests, (split line).0)

pub words_whole : (line : List ℕ) → position (λ x. eqb x 32) line ≡ None → words_of line ≡ line ∷ []
words_whole line e = grind (arith, nat_tests, (split line).1)

digit_in : (x : ℕ) (b : Bool) → IsTrue (is_ascii_digit x && b) → IsInRange 48 57 x
digit_in x b h = grind (arith, nat_tests)

digits_after : (x : ℕ) (b : Bool) → IsTrue (is_ascii_digit x && b) → IsTrue b
digits_after x b h = grind (arith, nat_tests)

-- one digit more, where n is the value of those before it
abbrev pub OneMore : List ℕ → ℕ → ℕ → Type 0
OneMore ds i n = (digits_value 10 (take (i + 1) ds) ≡ n * 10 + (get_or ds i 0 - 48)) × (n * 10 + (get_or ds i 0 - 48) ≤ digits_value 10 ds)
    × (48 ≤ get_or ds i 0) × (get_or ds i 0 ≤ 57)

pub digit_step : (ds : List ℕ) (i n : ℕ) → IsTrue (list_all is_ascii_digit ds) → i < length ds → n ≡ digits_value 10 (take i ds) → OneMore ds i n
digit_step ds i n all lt e =
    let range = digit_range ds i all lt in
    let value = digit_value_digit (get_or ds i 0) range in
    let more : digits_value 10 (take (i + 1) ds) ≡ n * 10 + (get_or ds i 0 - 48) = digits_value_more 10 ds i lt ∙ (omega arith) in
    (more, omega (arith, digits_value-take-le 10 ds (i + 1) (omega arith)), range.0, range.1)
  where
    digit_range : (ds : List ℕ) (i : ℕ) → IsTrue (list_all is_ascii_digit ds) → i < length ds → IsInRange 48 57 (get_or ds i 0)
    digit_range [] i all lt = absurd (omega arith)
    digit_range (x ∷ ds) zero all lt = digit_in x (list_all is_ascii_digit ds) all
    digit_range (x ∷ ds) (suc i) all lt = digit_range ds i (digits_after x (list_all is_ascii_digit ds) all) (omega arith)

pub number_small : (v n : ℕ) → n ≡ v → n < 2 ^ 64 → Some n ≡ (if nat_lt v (2 ^ 64) then Some v else None)
number_small v n e h = grind (arith, nat_tests)

number_big : (v : ℕ) → 2 ^ 64 ≤ v → None ≡ (if nat_lt v (2 ^ 64) then Some v else None)
number_big v h = grind (arith, nat_tests)

-- with the digits so far and this one, the number is too great
pub too_great : (ds : List ℕ) (i n : ℕ) → IsTrue (list_all is_ascii_digit ds) → i < length ds → n ≡ digits_value 10 (take i ds)
    → 2 ^ 64 ≤ n * 10 + (get_or ds i 0 - 48) → None ≡ (if nat_lt (digits_value 10 ds) (2 ^ 64) then Some (digits_value 10 ds) else None)
too_great ds i n all lt e h = number_big (digits_value 10 ds) (omega (arith, (digit_step ds i n all lt e).1))
