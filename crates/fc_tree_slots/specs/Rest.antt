-- What is left of a row of places whose items are taken from either end.
use Rattle.std.specs.Prelude.{◌≡◌, ℕ, ◌-◌, ◌≤◌, true, false, List, ◌++◌, map, replicate, Option}
use Rattle.fc_tree_slots.specs.Cells.{holds}

-- Of n places those from the a-th up to the e-th hold values, and no other.
abbrev pub IsPackedFrom : {X : Type 0} → List (Option X) → ℕ → ℕ → ℕ → Type 0
IsPackedFrom cs a e n = (a ≤ e) × (e ≤ n) × (map holds cs ≡ replicate a false ++ (replicate (e - a) true ++ replicate (n - e) false))
