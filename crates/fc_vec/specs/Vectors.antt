-- Vectors as lists: what a call leaves of them, and by which error a growth is refused.
use Rattle.std.specs.Prelude.{◌≡◌, ℕ, ◌+◌, ◌-◌, ◌<◌, List, [], ◌∷◌, ◌++◌, length, take, replicate}
use Rattle.fc_base.specs.declared.try_reserve_error.TryReserveError.{TryReserveError}
use Rattle.fc_base.specs.Growth.{append_error}
pub use Rattle.fc_base.specs.CopiedLists.{IsExtended, IsCopiedUpTo}

-- A vector as contracts see it: its items, and how many fit before the next request for memory.
pub record Vector (T : Type 0) : Type 0 where
  pub items : List T
  pub room : ℕ

-- A vector of m items, with room for so many, may refuse n more by this error: only where they do not fit, and as an
-- overflow exactly where the two pass the greatest length together.
abbrev pub MayRefuse : ℕ → ℕ → ℕ → TryReserveError → Type 0
MayRefuse room m n e = (room < m + n) × (e ≡ append_error m n)

module _ {T : Type 0} where
  -- The list, cut to n items or filled up to n with x.
  abbrev pub resized : List T → ℕ → T → List T
  resized xs n x = take n xs ++ replicate (n - length xs) x

module _ {T : Type 0} (same : T → T → Type 0) where
  -- The old items, filled up to n, which is above their number, with copies of x and, at the last place, x itself.
  pub record IsFilled (old : List T) (n : ℕ) (x : T) (new : List T) : Type 0 where
    pub before : List T
    pub extended : IsExtended same old (replicate (n - length old - 1) x) before
    pub is : new ≡ before ++ x ∷ []
