-- How many requests for memory a load makes.
use Rattle.std.specs.Prelude.{ℕ, ◌+◌, ◌*◌}
use Rattle.fc_tree_build.specs.Spares.{leaves_for, inner_for}

-- How many requests a tree makes at most that grows to n pairs at its right end: one for each leaf, and three for each inner node, two for its
-- blocks and one for the list that it may come in alone.
abbrev pub load_requests : ℕ → ℕ
load_requests n = leaves_for n + 3 * inner_for n
