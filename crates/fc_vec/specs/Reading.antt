-- What a bounded read leaves of its source and of its buffer.
use Rattle.std.specs.Prelude.{◌≡◌, ℕ, ◌+◌, ◌<◌, ◌≤◌, List, ◌++◌, length, take, Option, IfSome}
use Rattle.std.specs.Io.KnownBytes.{Consumes, IsAtEnd}

-- The first bytes that a source still gives, up to the limit: all of them where there are fewer.
abbrev pub front : List ℕ → ℕ → List ℕ
front left limit = take limit left

-- Of a source, by the bytes that it still gives before and after, where it tells them, and of a buffer, by its bytes before and after.
module _ (source source_after : Option (List ℕ)) (old new : List ℕ) where
  -- The bytes that were taken off the source, at most as many as the limit, stand after the buffer's own.
  abbrev pub IsMoved : ℕ → Type 0
  IsMoved limit = (bytes : List ℕ) × (length bytes ≤ limit) × (new ≡ old ++ bytes) × Consumes source source_after bytes

  -- Just the front was read: so many bytes, fewer than the limit only where the source ended.
  abbrev pub IsWhole : ℕ → ℕ → Type 0
  IsWhole limit n = (length new ≡ length old + n) × (n < limit → IsAtEnd source_after) × IfSome source (λ left. (new ≡ old ++ front left limit) × (n ≡ length (front left limit)))
