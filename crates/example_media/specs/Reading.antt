-- What a parser reads of its source.
use Rattle.std.specs.Prelude.{◌≡◌, ℕ, ◌+◌, ◌≤◌, List, length, Option}
use Rattle.std.specs.Io.KnownBytes.{Consumes}
use Rattle.example_media.specs.declared.parser.Fate.TheVariants.{Kept}
use Rattle.example_media.specs.declared.parser.Found.{Found}
use Rattle.example_media.specs.declared.parser.Found.TheVariants.{Whole, Stray, CutOff}

-- Of a source, by the bytes that it still gives before and after, where it tells them.
module _ (source source_after : Option (List ℕ)) where
  -- At most so many bytes were read.
  abbrev pub AreRead : ℕ → Type 0
  AreRead most = (bytes : List ℕ) × (length bytes ≤ most) × Consumes source source_after bytes

  -- Bytes were read, and what may be read fell at least by as many.
  abbrev pub IsWithin : ℕ → ℕ → Type 0
  IsWithin old new = (bytes : List ℕ) × (length bytes + new ≤ old) × Consumes source source_after bytes

-- How many boxes are open around what was found.
abbrev pub depth_of : Found → ℕ
depth_of (Whole header fate depth) = depth
depth_of (Stray count depth) = depth
depth_of (CutOff depth) = depth

-- The payload of a box that was kept is as long as the box says, without its front.
abbrev pub HasPayload : Found → List ℕ → Type 0
HasPayload (Whole header fate depth) payload = fate ≡ Kept → length payload + 8 ≡ header.length
HasPayload (Stray count depth) payload = Unit {0}
HasPayload (CutOff depth) payload = Unit {0}
