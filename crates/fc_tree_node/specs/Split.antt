-- How a full node is split, by the place i at which the new pair belongs.
use Rattle.std.specs.Prelude.{ℕ, ◌+◌, ◌-◌, nat_lt, nat_le, if◌then◌else◌}
use Rattle.fc_base.specs.Sizes.{capacity, min_len}

-- The place of the middle pair, which goes up, so that both halves then have the fewest pairs or one more.
abbrev pub middle_place : ℕ → ℕ
middle_place i = if nat_lt i min_len then min_len - 1 else (if nat_lt i (min_len + 2) then min_len else min_len + 1)

-- How many pairs the left node then holds: those before the middle, and the new one where i is before it.
abbrev pub left_length : ℕ → ℕ
left_length i = if nat_le i min_len then middle_place i + 1 else middle_place i

-- How many moves a split makes: the pairs after the middle, the middle handed out, and the new pair with those that it shifts.
abbrev pub split_moves : ℕ → ℕ
split_moves i = (capacity - (middle_place i + 1)) + 1 + (if nat_le i min_len then (middle_place i - i) + 1 else (capacity - i) + 1)
