-- Stretches of bytes that are held, by their starts: each with its end, which is the first byte after it, and its owner.
use Rattle.std.specs.Prelude.{◌≡◌, ◌≢◌, ℕ, ◌<◌, ◌≤◌, ◌⊎◌, ◌&&◌, Bool, cond, List, find, Option, None, Some, nat_eq, nat_le, nat_lt}
use Rattle.std.specs.Option.{option_map}
use Rattle.std.specs.Ordering.{nat_cmp}
use Rattle.fallible_collections.specs.Words.{value_at, IsAscending}

-- The byte lies in the stretch.
abbrev pub covers : ℕ → ℕ × (ℕ × ℕ) → Bool
covers byte stretch = nat_le stretch.0 byte && nat_lt byte stretch.1.0

-- Who holds the byte: the owner of the first stretch in which it lies, if there is one.
abbrev pub holder_of : List (ℕ × (ℕ × ℕ)) → ℕ → Option ℕ
holder_of held byte = option_map (λ stretch. stretch.1.1) (find (covers byte) held)

-- A stretch that starts at s is in the list, with that end and that owner.
abbrev pub IsIn : List (ℕ × (ℕ × ℕ)) → ℕ → ℕ × ℕ → Type 0
IsIn held s x = value_at nat_cmp held s ≡ Some x

-- The starts ascend, no stretch is empty, and none goes on where another one starts.
pub record AreApart (held : List (ℕ × (ℕ × ℕ))) : Type 0 where
  pub ascending : IsAscending nat_cmp held
  pub whole : (s : ℕ) (x : ℕ × ℕ) → IsIn held s x → s < x.0
  pub apart : (s t : ℕ) (x y : ℕ × ℕ) → IsIn held s x → IsIn held t y → s < t → x.0 ≤ t

-- Who holds what an owner gives up: nobody, where that owner held it, and else who did.
abbrev pub without : ℕ → Option ℕ → Option ℕ
without owner None = None
without owner (Some other) = cond (nat_eq other owner) None (Some other)

-- Another owner holds a byte from `start` up to `end`.
abbrev pub IsHeldBy : List (ℕ × (ℕ × ℕ)) → ℕ → ℕ → ℕ → ℕ → Type 0
IsHeldBy held start end owner other = (other ≢ owner) × (byte : ℕ) × (start ≤ byte) × (byte < end) × (holder_of held byte ≡ Some other)

-- The owner's stretches that start before a byte don't go on after it.
abbrev pub StopAt : List (ℕ × (ℕ × ℕ)) → ℕ → ℕ → Type 0
StopAt held owner byte = (s e : ℕ) → IsIn held s (e, owner) → s < byte → e ≤ byte

-- The last stretch that starts before the byte `below`, which goes on after `from`.
pub record IsLastIn (held : List (ℕ × (ℕ × ℕ))) (from below : ℕ) (last : ℕ × (ℕ × ℕ)) : Type 0 where
  pub there : IsIn held last.0 last.1
  pub before : last.0 < below
  pub reaches : from < last.1.0
  pub greatest : (s : ℕ) (x : ℕ × ℕ) → IsIn held s x → s < below → s ≤ last.0

-- What is held once an owner gave up the bytes from `start` up to `end`: each stretch is a part of one that was there.
pub record IsReleased (old new : List (ℕ × (ℕ × ℕ))) (start end owner : ℕ) : Type 0 where
  pub apart : AreApart new
  pub within : (s : ℕ) (x : ℕ × ℕ) → IsIn new s x → (e : ℕ) × (x.0 ≤ e) × IsIn old s (e, x.1)
  pub inside : (byte : ℕ) → start ≤ byte → byte < end → holder_of new byte ≡ without owner (holder_of old byte)
  pub outside : (byte : ℕ) → (byte < start) ⊎ (end ≤ byte) → holder_of new byte ≡ holder_of old byte

-- What is held once an owner gave up the bytes from `start` up to `kept`, and holds those from there up to `end`.
pub record IsRewritten (old new : List (ℕ × (ℕ × ℕ))) (start kept end owner : ℕ) : Type 0 where
  pub apart : AreApart new
  pub given_up : (byte : ℕ) → start ≤ byte → byte < kept → holder_of new byte ≡ without owner (holder_of old byte)
  pub given : (byte : ℕ) → kept ≤ byte → byte < end → holder_of new byte ≡ Some owner
  pub outside : (byte : ℕ) → (byte < start) ⊎ (end ≤ byte) → holder_of new byte ≡ holder_of old byte
