-- What a row of places owns and lends, and the right to its room, at items of the row R: token is the allocator's, the right to free
-- the block at a pointer, which is for a value of a type.
use Rattle.std.specs.Prelude.{ℕ, zero, suc, ◌+◌, ◌*◌, ◌^◌, List, [], ◌∷◌, length, Option, Some, None}
use Rattle.std.specs.Mem.{type_size}
use base.Fraction.{full_share}
use base.Fml.{Lft, Fml, ftrue, ffalse, fsep, flt, froom}
use mir.Syntax.{Ty, ty_array}
use mir.Raw.{raw}
use denote.RattleType.{RattleType}
use denote.Memory.{lone, part_at, shared_of}
use denote.Sharing.{nothing, said, beside}
use denote.RawPtr.{Ptr, block_ptr, null_ptr}

-- no room is asked for where an item has no size
abbrev pub if_sized : ℕ → Fml → Fml
if_sized zero owned = ftrue
if_sized (suc s) owned = owned

module _ (R : RattleType) where
  -- a place in the block b, at the offset o: room, or an item
  abbrev pub place : ℕ → ℕ → Option R.Denot → Fml
  place b o None = froom (raw (lone R.mir)) b o
  place b o (Some x) = part_at R full_share x b o

  -- places that follow one another
  abbrev pub places : ℕ → ℕ → List (Option R.Denot) → Fml
  places b o [] = ftrue
  places b o (c ∷ cs) = fsep (place b o c) (places b (o + type_size R) cs)

  abbrev pub place_lent : ℕ → ℕ → Option R.Denot → Lft → Fml
  place_lent b o None = nothing
  place_lent b o (Some x) = shared_of R x b o

  abbrev pub places_lent : ℕ → ℕ → List (Option R.Denot) → Lft → Fml
  places_lent b o [] = nothing
  places_lent b o (c ∷ cs) = beside (place_lent b o c) (places_lent b (o + type_size R) cs)

  -- no block takes 2 ^ 63 bytes
  abbrev pub bounded : ℕ → Fml
  bounded n = flt (n * type_size R) (2 ^ 63)

  -- a block of n places, and the token that gives it back
  abbrev pub block : (Ty → Ptr → Fml) → Ptr → ℕ → Fml
  block token p n = fsep (bounded n) (if_sized (type_size R) (token (raw (ty_array (lone R.mir) n)) p))

  abbrev pub row_owned : (Ty → Ptr → Fml) → Ptr → List (Option R.Denot) → Fml
  row_owned token null_ptr cs = ffalse
  row_owned token (block_ptr b o) cs = fsep (block token (block_ptr b o) (length cs)) (places b o cs)

  abbrev pub row_lent : Ptr → List (Option R.Denot) → Lft → Fml
  row_lent null_ptr cs = said ffalse
  row_lent (block_ptr b o) cs = beside (said (bounded (length cs))) (places_lent b o cs)
