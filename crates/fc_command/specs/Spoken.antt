-- What is written for lines.
use Rattle.std.specs.Prelude.{◌≡◌, ℕ, ◌+◌, ◌-◌, ◌^◌, min, ◌⊎◌, IfSome, IsSomeAnd, List, [], ◌∷◌, ◌++◌, length, map, codes, Option, Some, None, Result, Ok, Err}
use Rattle.std.specs.List.{flat_map}
use Rattle.std.specs.Ordering.{nat_cmp}
use Rattle.std.specs.Io.KnownBytes.{Consumes, IsAtEnd}
use Rattle.std.specs.declared.alloc.Global.{Global}
use Rattle.fc_command.specs.declared.command.world.World.{World}
use Rattle.fc_lines.specs.declared.command.Command.{Command}
use Rattle.fc_lines.specs.declared.command.Reply.{Reply}
use Rattle.fc_command.specs.Step.{IsNew, Runs}
use Rattle.fc_base.specs.declared.try_reserve_error.TryReserveError.TheVariants.{AllocError}
use Rattle.fc_command.specs.declared.command.session.ServeEnd.{ServeEnd}
use Rattle.fc_command.specs.declared.command.session.ServeEnd.TheVariants.{Finished, NotACommand}
use Rattle.fc_command.specs.declared.command.session.ServeError.{ServeError}
use Rattle.fc_command.specs.declared.command.session.ServeError.TheVariants.{Memory, Read, Write}
use Rattle.fc_lines.specs.Lines.{lines_of, whole_lines_of, words_of}
use Rattle.fc_lines.specs.Grammar.{command_of}
use Rattle.fc_lines.specs.Texts.{text_of, fault_text}
use Rattle.fc_lines.specs.Room.{NamesList, AsksForList}

-- A line that names a list, or asks for one.
abbrev pub HasList : List ℕ → Type 0
HasList line = NamesList (words_of line) ⊎ IsSomeAnd (command_of line) AsksForList

-- The lines are commands that lead from a new world to this one, and the text is that of their replies. No copy of a number is refused.
pub record SpokenTo {Z : Type 0} (lines : List (List ℕ)) (text : List ℕ) (world : World ℕ ℕ Z) : Type 0 where
  pub start : World ℕ ℕ Z
  pub new : IsNew start
  pub commands : List (Command ℕ ℕ)
  pub replies : List (Reply ℕ ℕ)
  pub each : map command_of lines ≡ map Some commands
  pub run : Runs nat_cmp (λ _ _. ⊥) (λ _ _. ⊥) start commands replies world
  pub says : text ≡ flat_map text_of replies

-- What is written where the maps and sets take their memory from a handle of type Z.
module _ (Z : Type 0) where
  -- The lines are commands, and the text is that of their replies.
  abbrev pub SpokenIn : List (List ℕ) → List ℕ → Type 0
  SpokenIn lines text = (world : World ℕ ℕ Z) × SpokenTo lines text world

  -- Some front of the lines is spoken.
  abbrev pub SpokenFront : List (List ℕ) → List ℕ → Type 0
  SpokenFront lines text = (front after : List (List ℕ)) × (lines ≡ front ++ after) × SpokenIn front text

  -- Some front of the lines is spoken, and the line after it names a list or asks for one.
  abbrev pub StopsAtList : List (List ℕ) → List ℕ → Type 0
  StopsAtList lines text = (front after : List (List ℕ)) × (line : List ℕ) × (lines ≡ front ++ line ∷ after) × HasList line × SpokenIn front text

  -- The lines before line n are spoken, line n is not a command, and its fault line follows.
  pub record Faulted (lines : List (List ℕ)) (text : List ℕ) (n : ℕ) : Type 0 where
    pub front : List (List ℕ)
    pub line : List ℕ
    pub after : List (List ℕ)
    pub said : List ℕ
    pub place : lines ≡ front ++ line ∷ after
    pub bad : command_of line ≡ None
    pub spoken : SpokenIn front said
    pub number : n ≡ min (length front + 1) (2 ^ 64 - 1)
    pub text_is : text ≡ said ++ fault_text n

  -- The text is a beginning of what is written for some front of the lines, whose last may be a line that is not a command.
  abbrev pub Cut : List (List ℕ) → List ℕ → Type 0
  Cut lines text = (tail : List ℕ) × (SpokenFront lines (text ++ tail) ⊎ ((n : ℕ) × Faulted lines (text ++ tail) n))

  -- What was written at each end, by the bytes that the source had before (old) and has left (new), as far as it tells them.
  abbrev pub ServedIn : Option (List ℕ) → Option (List ℕ) → List ℕ → Result ServeEnd ServeError → Type 0
  -- Finished: the whole source was read, and its lines are spoken.
  ServedIn old new text (Ok Finished) = IsAtEnd new × IfSome old (λ source. SpokenIn (lines_of source) text)
  -- NotACommand: the lines before that line are spoken, and its fault line follows.
  ServedIn old new text (Ok (NotACommand n)) = IfSome old (λ source. Faulted (lines_of source) text n)
  -- Memory: it was refused at the start, and nothing is read or written; or for the list that the line after those spoken names or asks for,
  -- and nothing more is written.
  ServedIn old new text (Err (Memory e)) = (e ≡ AllocError) × (((new ≡ old) × (text ≡ [])) ⊎ IfSome old (λ source. StopsAtList (lines_of source) text))
  -- Read: the lines that were read to their line feed are spoken.
  ServedIn old new text (Err Read) = (read : List ℕ) × Consumes old new read × SpokenIn (whole_lines_of read) text
  -- Write: a beginning was written.
  ServedIn old new text (Err Write) = IfSome old (λ source. Cut (lines_of source) text)

-- The same where they take it from `Global`.
abbrev pub Spoken : List (List ℕ) → List ℕ → Type 0
Spoken lines text = SpokenIn Global lines text

abbrev pub Served : Option (List ℕ) → Option (List ℕ) → List ℕ → Result ServeEnd ServeError → Type 0
Served old new text end = ServedIn Global old new text end

-- The exit status of an end, and the line for standard error.
abbrev pub ending_of : Result ServeEnd ServeError → ℕ × List ℕ
ending_of (Ok Finished) = (0, [])
ending_of (Ok (NotACommand n)) = (1, [])
ending_of (Err Read) = (2, codes "input failed")
ending_of (Err Write) = (2, codes "output failed")
ending_of (Err (Memory e)) = (2, codes "no memory")
