-- Sessions of users: of each user, in order of their numbers, the list of tokens with the time when each was last seen.
use Rattle.std.specs.Prelude.{ℕ, List, [], slice_index_or}

-- Those of one user.
abbrev pub of_user : List (List (ℕ × ℕ)) → ℕ → List (ℕ × ℕ)
of_user sessions user = slice_index_or sessions user []
