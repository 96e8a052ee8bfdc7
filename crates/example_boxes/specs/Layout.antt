-- How a box lies in bytes, and what lies in a box. Numbers have their highest byte first.
use Rattle.std.specs.Prelude.{ℕ, ◌+◌, ◌*◌, ◌≤◌, ◌==◌, nat_lt, if◌then◌else◌, List, length, take, drop, map, unwrap_or}
use Rattle.std.specs.List.{position}
use Rattle.std.specs.Int.{w32, w64, from_be_bytes}
use Rattle.std.specs.Simd.{first_chunks}

module _ (bytes : List ℕ) where
  -- The number that the bytes begin with, of four bytes or of eight.
  abbrev pub number32 : ℕ
  number32 = from_be_bytes w32 (take 4 bytes)

  abbrev pub number64 : ℕ
  number64 = from_be_bytes w64 (take 8 bytes)

-- A box begins with its length and its kind. A length of 1 stands for the one of eight bytes after the kind, and 0 for all that is left.
module _ (bytes : List ℕ) where
  abbrev pub front_size : ℕ
  front_size = if number32 bytes == 1 then 16 else 8

  abbrev pub box_length : ℕ
  box_length = if number32 bytes == 0 then length bytes else (if number32 bytes == 1 then number64 (drop 8 bytes) else number32 bytes)

  abbrev pub kind_of : List ℕ
  kind_of = take 4 (drop 4 bytes)

  -- The box has its whole front, and all of it is there.
  abbrev pub HasBox : Type 0
  HasBox = (front_size ≤ box_length) × (box_length ≤ length bytes)

-- A table begins with the number of its entries, each of which is a number of four bytes.
module _ (bytes : List ℕ) where
  abbrev pub table_size : ℕ
  table_size = 4 + 4 * number32 bytes

  abbrev pub table_of : List ℕ
  table_of = map (from_be_bytes w32) (first_chunks 4 (number32 bytes) (drop 4 (take table_size bytes)))

  -- A text ends before the first byte that is 0, or with the bytes.
  abbrev pub text_of : List ℕ
  text_of = take (unwrap_or (position (λ b. b == 0) bytes) (length bytes)) bytes

-- The number of a track stands after a version, with flags, and two times, which take four bytes each in version 0 and else eight.
module _ (content : List ℕ) where
  abbrev pub times_size : ℕ
  times_size = if nat_lt (number32 content) 16777216 then 8 else 16

  abbrev pub track_number : ℕ
  track_number = number32 (drop (4 + times_size) content)
