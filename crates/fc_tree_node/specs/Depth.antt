-- How many levels a tree of so many pairs may have, and what moves and requests they allow.
use Rattle.std.specs.Prelude.{ℕ, ◌+◌, ◌*◌, ◌^◌, ◌≤◌}
use Rattle.fc_base.specs.Sizes.{least_children, level_moves}
use Rattle.fc_base.specs.declared.asked.Asked.{Asked}
use Rattle.fc_base.specs.declared.count.Count.{Count}

-- A tree of n pairs has enough of them for h levels below its root.
abbrev pub IsDeep : ℕ → ℕ → Type 0
IsDeep h n = 2 * least_children ^ h ≤ n + 1

-- Pairs were moved, at most as many for each of the h + 1 levels of some height h that n pairs can have as a level may cost.
abbrev pub HasFewMoves : ℕ → Count → Count → Type 0
HasFewMoves n old new = (h : ℕ) × IsDeep h n × (new.moves ≤ old.moves + level_moves * (h + 1))

-- Memory was asked for at most twice for each of the h + 1 levels of some height h that n pairs can have, and once more.
abbrev pub HasFewRequests : ℕ → Asked → Asked → Type 0
HasFewRequests n old new = (h : ℕ) × IsDeep h n × (new.requests ≤ old.requests + (2 * (h + 1) + 1))
