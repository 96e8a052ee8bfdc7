-- What a piece of a source holds, before what its reader still gives.
use Rattle.std.proofs.Common.{◌≡◌, ◌∙◌, ◌+◌, ◌-◌, ◌<◌, ◌≤◌, ◌∷◌, ◌++◌}
use Rattle.std.proofs.Common.{ℕ, suc, List, [], Option, Some, None, length, take, drop, slice_index, add-one, arith, refl, ap}
use Rattle.std.specs.List.{slice_range}
use Rattle.std.specs.Io.KnownBytes.{Consumes, Keeps, prepend_known}
use Rattle.std.proofs.Math.Seq.{drop-cons}

-- Nothing is left of a piece at its end.
pub nothing_left : (piece : List ℕ) (start end : ℕ) → end ≤ start → slice_range piece start end ≡ []
nothing_left piece start end le = let z : end - start ≡ 0 = omega arith in rw z refl

pub byte_first : (piece : List ℕ) (start end : ℕ) → start < end → end ≤ length piece
    → slice_range piece start end ≡ slice_index piece start ∷ slice_range piece (start + 1) end
byte_first piece start end lt fits =
    let some : end - start ≡ suc (end - (start + 1)) = omega arith in
    let cut : drop start piece ≡ slice_index piece start ∷ drop (start + 1) piece = grind (arith, drop-cons, add-one) in
    rw (some, cut) refl

pub front_first : (piece : List ℕ) (end : ℕ) → 0 < end → end ≤ length piece → take end piece ≡ slice_index piece 0 ∷ slice_range piece 1 end
front_first piece end lt fits = let all : end - 0 ≡ end = omega arith in rw all at (byte_first piece 0 end lt fits)

-- Where all of the piece is taken, what is still given is the reader's.
pub kept_of_known : (a a' : Option (List ℕ)) (old new : List ℕ) → Keeps a a' → old ≡ [] → new ≡ [] → Keeps (prepend_known old a) (prepend_known new a')
kept_of_known None a' old new k o n = tt
kept_of_known (Some x) None old new k o n = absurd k
kept_of_known (Some x) (Some y) old new k o n = rw (o, n) k

pub taken_of_known : (a : Option (List ℕ)) (byte : ℕ) (old new : List ℕ) → old ≡ byte ∷ new → Consumes (prepend_known old a) (prepend_known new a) (byte ∷ [])
taken_of_known None byte old new e = tt
taken_of_known (Some x) byte old new e = ap (λ l. l ++ x) e

-- A piece was read where there was none, and its first byte taken.
pub taken_first : (a a' : Option (List ℕ)) (byte : ℕ) (old read new : List ℕ) → old ≡ [] → Consumes a a' read → read ≡ byte ∷ new
    → Consumes (prepend_known old a) (prepend_known new a') (byte ∷ [])
taken_first None a' byte old read new o c e = tt
taken_first (Some x) None byte old read new o c e = absurd c
taken_first (Some x) (Some y) byte old read new o c e = rw o (c ∙ ap (λ l. l ++ y) e)
