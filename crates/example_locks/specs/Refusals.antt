-- Why a call on a table of locks changed nothing.
use Rattle.std.specs.Prelude.{◌≡◌, ℕ, ◌<◌, ◌≤◌, List, Some}
use Rattle.example_locks.specs.Held.{holder_of, IsHeldBy}
use Rattle.example_locks.specs.declared.locks.Refusal.{Refusal}
use Rattle.example_locks.specs.declared.locks.Refusal.TheVariants.{Empty, Held, Memory}

-- Nothing was locked: there is no byte in the range, another owner holds one of it, or memory was refused.
abbrev pub IsNotLocked : List (ℕ × (ℕ × ℕ)) → ℕ → ℕ → ℕ → Refusal → Type 0
IsNotLocked held start end owner Empty = end ≤ start
IsNotLocked held start end owner (Held other) = IsHeldBy held start end owner other
IsNotLocked held start end owner (Memory e) = start < end

-- Nothing was given up: there is no byte in the range, or memory was refused for what the owner holds after it.
abbrev pub IsNotUnlocked : List (ℕ × (ℕ × ℕ)) → ℕ → ℕ → ℕ → Refusal → Type 0
IsNotUnlocked held start end owner Empty = end ≤ start
IsNotUnlocked held start end owner (Held other) = ⊥
IsNotUnlocked held start end owner (Memory e) = (start < end) × (holder_of held end ≡ Some owner)
