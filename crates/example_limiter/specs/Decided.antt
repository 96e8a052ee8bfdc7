-- Which requests a limiter allows, and what it keeps of them.
use Rattle.std.specs.Prelude.{◌≡◌, ℕ, ◌-◌, ◌<◌, ◌≤◌, Bool, true, false, List, [], ◌∷◌, ◌++◌, length, filter, Option, None, Some, nat_eq, nat_lt}
use Rattle.fallible_collections.specs.Words.{Vector, hashed_value_at}

-- So many requests of a client are allowed within so long a time; and the times of those that were, for each client that made some.
pub record Limits : Type 0 where
  pub limit : ℕ
  pub window : ℕ
  pub clients : List (ℕ × Vector ℕ)

abbrev pub times_of : Option (Vector ℕ) → List ℕ
times_of None = []
times_of (Some times) = times.items

-- The times that are kept of a client, the oldest first.
abbrev pub kept : Limits → ℕ → List ℕ
kept limits client = times_of (hashed_value_at nat_eq client limits.clients)

-- The time is less than `window` ago.
abbrev pub is_recent : ℕ → ℕ → ℕ → Bool
is_recent window now time = nat_lt (now - time) window

-- Those of a client that are so recent.
abbrev pub recent : Limits → ℕ → ℕ → List ℕ
recent limits client now = filter (is_recent limits.window now) (kept limits client)

-- Allowed, with its time after the recent ones, where these are fewer than the limit; else denied. The others are forgotten.
abbrev pub IsDecided : List ℕ → ℕ → ℕ → Bool → List ℕ → Type 0
IsDecided times limit now true new = (length times < limit) × (new ≡ times ++ now ∷ [])
IsDecided times limit now false new = (limit ≤ length times) × (new ≡ times)
