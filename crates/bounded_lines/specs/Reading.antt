-- What the reading of a line takes off a source, and what it keeps.
use Rattle.std.specs.Prelude.{◌≡◌, ◌≢◌, ℕ, ◌<◌, nat_le, if◌then◌else◌, ◌⊎◌, Bool, true, false, List, [], ◌∷◌, ◌++◌, length, All, Option, Some, None, Result, Ok, Err}
use Rattle.std.specs.Io.KnownBytes.{Consumes, IsAtEnd}

-- A line in room for so many bytes: none where it is longer.
abbrev pub held : ℕ → List ℕ → Option (List ℕ)
held room line = if nat_le (length line) room then Some line else None

-- A line and its line feed were taken off a source, or the last line, which has none and is not empty; or the source had ended;
-- or a read failed after these bytes of a line.
abbrev pub IsTaken : {E : Type 0} → Option (List ℕ) → Option (List ℕ) → List ℕ → Result Bool E → Type 0
IsTaken before after line (Ok true) = Consumes before after (line ++ 10 ∷ []) ⊎ (Consumes before after line × IsAtEnd after × (0 < length line))
IsTaken before after line (Ok false) = Consumes before after [] × IsAtEnd after × (line ≡ [])
IsTaken before after line (Err e) = Consumes before after line

-- A line was read off a source into so much room, or as much of one as there was.
pub record IsRead {E : Type 0} (room : ℕ) (before after kept : Option (List ℕ)) (result : Result Bool E) : Type 0 where
  pub line : List ℕ
  pub has_no_feed : All (λ byte. byte ≢ 10) line
  pub taken : IsTaken before after line result
  pub held : kept ≡ held room line
