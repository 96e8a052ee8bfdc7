-- How bytes are cut into lines, one byte more at a time.
use Rattle.std.proofs.Common.{◌≡◌, ◌≢◌, ℕ, ◌<◌, eqb, List, [], ◌∷◌, ◌++◌, length, None, refl, sym, ap, ◌∙◌, arith, false, append_assoc}
use Rattle.std.proofs.Common.{append-nil}
use Rattle.std.specs.List.{AllByRecursion}
use Rattle.std.proofs.lemmas.Bool.Decides.{nat_tests}
use Rattle.fc_lines.specs.Lines.{lines_of, whole_lines_of, onto_first}
use Rattle.fc_lines.specs.Grammar.{command_of}
use Rattle.fc_command.specs.Session.{Cuts}

abbrev pub Open : List ℕ → Type 0
Open line = AllByRecursion (λ x. x ≢ 10) line

eqb_other : (x : ℕ) → x ≢ 10 → eqb x 10 ≡ false
eqb_other x h = grind (arith, nat_tests)

pub open_append : (line part : List ℕ) → Open line → Open part → Open (line ++ part)
open_append [] part o p = p
open_append (y ∷ line) part o p = (o.0, open_append line part o.1 p)

-- what is cut off at a line feed begins with it
pub fed_first : (left from after : List ℕ) (x : ℕ) → left ≡ from → left ≡ x ∷ after → ((x : ℕ) (after : List ℕ) → from ≡ x ∷ after → x ≡ 10)
    → left ≡ 10 ∷ after
fed_first left from after x cut cell feed = cell ∙ ap (λ y. y ∷ after) (feed x after (sym cut ∙ cell))

-- a line feed ends the line
pub lines_feed : (line rest : List ℕ) → Open line → lines_of (line ++ 10 ∷ rest) ≡ line ∷ lines_of rest
lines_feed [] rest o = refl
lines_feed (x ∷ line) rest o = rw (eqb_other x o.0, lines_feed line rest o.1) refl

pub whole_feed : (line rest : List ℕ) → Open line → whole_lines_of (line ++ 10 ∷ rest) ≡ line ∷ whole_lines_of rest
whole_feed [] rest o = refl
whole_feed (x ∷ line) rest o = rw (eqb_other x o.0, whole_feed line rest o.1) refl

-- with none, nothing is whole
pub whole_open : (line : List ℕ) → Open line → whole_lines_of line ≡ []
whole_open [] o = refl
whole_open (x ∷ line) o = rw (eqb_other x o.0, whole_open line o.1) refl

-- and what is there is a line
pub lines_open : (x : ℕ) (line : List ℕ) → Open (x ∷ line) → lines_of (x ∷ line) ≡ (x ∷ line) ∷ []
lines_open x [] o = rw (eqb_other x o.0) refl
lines_open x (y ∷ line) o = rw (eqb_other x o.0, lines_open y line o.1) refl

-- the first line begins with what is there, whatever follows
pub lines_begin : (x : ℕ) (line rest : List ℕ) → Open (x ∷ line) → (tail : List ℕ) × (after : List (List ℕ))
    × (lines_of ((x ∷ line) ++ rest) ≡ ((x ∷ line) ++ tail) ∷ after)
lines_begin x [] rest o = let two = onto x (lines_of rest) in (two.0, two.1, rw (eqb_other x o.0) two.2)
  where
    onto : (x : ℕ) (ls : List (List ℕ)) → (tail : List ℕ) × (after : List (List ℕ)) × (onto_first x ls ≡ (x ∷ tail) ∷ after)
    onto x [] = ([], [], refl)
    onto x (l ∷ ls) = (l, ls, refl)
lines_begin x (y ∷ line) rest o = let more = lines_begin y line rest o.1 in (more.0, more.1, rw (eqb_other x o.0, more.2) refl)

pub lines_begin_any : (line rest : List ℕ) → Open line → 0 < length line
    → (tail : List ℕ) × (after : List (List ℕ)) × (lines_of (line ++ rest) ≡ (line ++ tail) ∷ after)
lines_begin_any [] rest o h = absurd (omega arith)
lines_begin_any (x ∷ line) rest o h = lines_begin x line rest o

-- a line of more than 4096 bytes is no command
pub too_long : (line : List ℕ) → 4096 < length line → command_of line ≡ None
unfolding command_of
too_long line h = grind (arith, nat_tests)

pub cuts_none : Cuts [] [] []
cuts_none = record { lines = λ rest. refl; whole = λ rest. refl; open_line = tt }

module _ (seen : List ℕ) (front : List (List ℕ)) (line : List ℕ) (cuts : Cuts seen front line) where
  -- bytes without a line feed go onto the line
  pub cuts_part : (part : List ℕ) → Open part → Cuts (seen ++ part) front (line ++ part)
  cuts_part part h = record {
    lines = λ rest. rw (append_assoc seen part rest, append_assoc line part rest) (cuts.lines (part ++ rest));
    whole = λ rest. rw (append_assoc seen part rest, append_assoc line part rest) (cuts.whole (part ++ rest));
    open_line = open_append line part cuts.open_line h;
  }

  -- a line feed ends it
  pub cuts_feed : Cuts (seen ++ 10 ∷ []) (front ++ line ∷ []) []
  cuts_feed = record {
    lines = λ rest. rw (append_assoc seen (10 ∷ []) rest, append_assoc front (line ∷ []) (lines_of rest)) (cuts.lines (10 ∷ rest)
        ∙ ap (λ l. front ++ l) (lines_feed line rest cuts.open_line));
    whole = λ rest. rw (append_assoc seen (10 ∷ []) rest, append_assoc front (line ∷ []) (whole_lines_of rest)) (cuts.whole (10 ∷ rest)
        ∙ ap (λ l. front ++ l) (whole_feed line rest cuts.open_line));
    open_line = tt;
  }

  -- the whole lines of what was seen
  pub cuts_whole : whole_lines_of seen ≡ front
  cuts_whole = ap whole_lines_of (sym (append-nil seen)) ∙ cuts.whole [] ∙ ap (λ l. front ++ whole_lines_of l) (append-nil line)
      ∙ ap (λ l. front ++ l) (whole_open line cuts.open_line) ∙ append-nil front
