-- What the private steps of `serve` keep.
use Rattle.std.specs.Prelude.{◌≡◌, ℕ, ◌+◌, ◌-◌, ◌^◌, ◌≤◌, ◌≢◌, min, ◌⊎◌, List, [], ◌∷◌, ◌++◌, length, Option, Some, None, Result, Ok, Err, vec_capacity}
use Rattle.std.specs.List.{AllByRecursion}
use Rattle.fc_base.specs.declared.try_reserve_error.TryReserveError.TheVariants.{AllocError}
use Rattle.fc_command.specs.declared.command.session.Session.{Session}
use Rattle.fc_command.specs.declared.command.session.ServeEnd.{ServeEnd}
use Rattle.fc_command.specs.declared.command.session.ServeEnd.TheVariants.{Finished, NotACommand}
use Rattle.fc_command.specs.declared.command.session.ServeError.{ServeError}
use Rattle.fc_command.specs.declared.command.session.ServeError.TheVariants.{Memory, Read, Write}
use Rattle.fc_lines.specs.Lines.{lines_of, whole_lines_of}
use Rattle.fc_lines.specs.Grammar.{command_of}
use Rattle.fc_lines.specs.Texts.{fault_text}
use Rattle.fc_command.specs.Spoken.{SpokenTo, SpokenIn, Faulted, Cut, HasList, StopsAtList}

-- All of the text was written, or a beginning of it.
abbrev pub Written : List ℕ → List ℕ → Result (Unit {0}) ServeError → Type 0
Written text more (Ok _) = more ≡ text
Written text more (Err Write) = (tail : List ℕ) × (text ≡ more ++ tail)
Written text more (Err (Memory e)) = ⊥
Written text more (Err Read) = ⊥

-- The fault line of a line was written, or a beginning of it.
abbrev pub FaultTold : ℕ → List ℕ → Result (Option ℕ) ServeError → Type 0
FaultTold number more (Ok None) = ⊥
FaultTold number more (Ok (Some n)) = (n ≡ number) × (more ≡ fault_text n)
FaultTold number more (Err Write) = (tail : List ℕ) × (more ++ tail ≡ fault_text number)
FaultTold number more (Err (Memory e)) = ⊥
FaultTold number more (Err Read) = ⊥

-- The bytes seen are the lines of front, and then those of a line that has not ended, however the source goes on.
pub record Cuts (seen : List ℕ) (front : List (List ℕ)) (line : List ℕ) : Type 0 where
  pub lines : (rest : List ℕ) → lines_of (seen ++ rest) ≡ front ++ lines_of (line ++ rest)
  pub whole : (rest : List ℕ) → whole_lines_of (seen ++ rest) ≡ front ++ whole_lines_of (line ++ rest)
  pub open_line : AllByRecursion (λ x. x ≢ 10) line

-- What is written where the maps and sets take their memory from a handle of type Z.
module _ (Z : Type 0) where
  -- How a session fails, with this text written for some of the lines.
  abbrev pub Failed : List (List ℕ) → List ℕ → ServeError → Type 0
  Failed lines text (Memory e) = (e ≡ AllocError) × StopsAtList Z lines text
  Failed lines text Read = ⊥
  Failed lines text Write = Cut Z lines text

  -- What was written for a source that was read whole.
  abbrev pub Ended : List ℕ → List ℕ → Result ServeEnd ServeError → Type 0
  Ended source text (Ok Finished) = SpokenIn Z (lines_of source) text
  Ended source text (Ok (NotACommand n)) = Faulted Z (lines_of source) text n
  Ended source text (Err e) = Failed (lines_of source) text e

module _ {Z : Type 0} where
  -- After the lines of front, for which said was written, one line more was run, and more was written; or memory was refused for its list.
  abbrev pub LineRun : Session Z → Session Z → List (List ℕ) → List ℕ → List ℕ → Result (Option ℕ) ServeError → Type 0
  LineRun old new front said more (Ok None) = SpokenTo (front ++ old.line.items ∷ []) (said ++ more) new.world
      × (new.line.items ≡ []) × (new.number ≡ min (old.number + 1) (2 ^ 64 - 1)) × (vec_capacity new.line ≡ vec_capacity old.line)
  LineRun old new front said more (Ok (Some n)) = (command_of old.line.items ≡ None) × (n ≡ min (old.number + 1) (2 ^ 64 - 1)) × (more ≡ fault_text n)
  LineRun old new front said more (Err (Memory e)) = (e ≡ AllocError) × (more ≡ []) × HasList old.line.items
  LineRun old new front said more (Err Read) = ⊥
  LineRun old new front said more (Err Write) = (tail : List ℕ) × (SpokenIn Z (front ++ old.line.items ∷ []) (said ++ (more ++ tail))
      ⊎ ((command_of old.line.items ≡ None) × (more ++ tail ≡ fault_text (min (old.number + 1) (2 ^ 64 - 1)))))

  -- The session has seen these bytes, and said was written for them.
  pub record IsAfter (s : Session Z) (seen said : List ℕ) : Type 0 where
    pub front : List (List ℕ)
    pub cuts : Cuts seen front s.line.items
    pub spoken : SpokenTo front said s.world
    pub number : s.number ≡ min (length front) (2 ^ 64 - 1)

  -- The line fits, and there is room for the longest line and for the longest reply that is no list.
  abbrev pub HasRoom : Session Z → Type 0
  HasRoom s = (length s.line.items ≤ 4096) × (4096 ≤ vec_capacity s.line) × (101 ≤ vec_capacity s.text)

  -- The session took bytes up to those that it has seen, and said was written for them, whatever follows.
  abbrev pub PieceRun : Session Z → List ℕ → List ℕ → Result (Option ℕ) ServeError → Type 0
  PieceRun new seen said (Ok None) = IsAfter new seen said
  PieceRun new seen said (Ok (Some n)) = (rest : List ℕ) → Faulted Z (lines_of (seen ++ rest)) said n
  PieceRun new seen said (Err e) = (rest : List ℕ) → Failed Z (lines_of (seen ++ rest)) said e
