-- Lines and words of bytes. A line feed is 10 and a space is 32.
use Rattle.std.specs.Prelude.{ℕ, ◌==◌, List, [], ◌∷◌, Option, Some, None, if◌then◌else◌}
use Rattle.std.specs.Borrow.{Bor}

-- The pieces with x at the front of the first.
abbrev pub onto_first : ℕ → List (List ℕ) → List (List ℕ)
onto_first x [] = (x ∷ []) ∷ []
onto_first x (piece ∷ pieces) = (x ∷ piece) ∷ pieces

-- The lines of a text: it is cut at each line feed, and what follows the last is a line where it is not empty.
abbrev pub lines_of : List ℕ → List (List ℕ)
lines_of [] = []
lines_of (x ∷ text) = if x == 10 then [] ∷ lines_of text else onto_first x (lines_of text)

-- The pieces with x at the front of the first, if there is one.
abbrev pub onto_whole : ℕ → List (List ℕ) → List (List ℕ)
onto_whole x [] = []
onto_whole x (piece ∷ pieces) = (x ∷ piece) ∷ pieces

-- The lines of a text that end in a line feed.
abbrev pub whole_lines_of : List ℕ → List (List ℕ)
whole_lines_of [] = []
whole_lines_of (x ∷ text) = if x == 10 then [] ∷ whole_lines_of text else onto_whole x (whole_lines_of text)

-- The words of a line: it is cut at each space, so that a word is empty where two spaces meet.
abbrev pub words_of : List ℕ → List (List ℕ)
words_of [] = [] ∷ []
words_of (x ∷ line) = if x == 32 then [] ∷ words_of line else onto_first x (words_of line)

-- The words of what is left of a line.
abbrev pub words_left : Option (Bor (List ℕ)) → List (List ℕ)
words_left None = []
words_left (Some rest) = words_of rest.now
