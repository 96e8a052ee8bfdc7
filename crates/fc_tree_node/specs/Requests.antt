-- How many requests for memory nodes take that are made ahead.
use Rattle.std.specs.Prelude.{ℕ, zero, suc, ◌+◌, ◌*◌}

-- One for a list of nodes, and so many for each of them; none where there are no nodes.
abbrev pub list_requests : ℕ → ℕ → ℕ
list_requests each zero = 0
list_requests each (suc n) = each * suc n + 1
