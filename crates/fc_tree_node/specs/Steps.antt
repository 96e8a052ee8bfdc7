-- How a path keeps its steps.
use Rattle.std.specs.Prelude.{◌≡◌, ℕ, List, ◌++◌, length, take, drop, replicate, ◌≤◌}
use Rattle.std.proofs.Common.{ap, ◌∙◌}
use Rattle.fc_base.specs.Sizes.{most_levels}
use Rattle.fc_tree_node.specs.declared.path.Path.TheInside.{Inside}

-- As many zeros as a path has steps at most.
abbrev padding : List ℕ
padding = replicate most_levels 0

-- The path, filled up with zeros.
abbrev pub padded : List ℕ → List ℕ
padded path = path ++ drop (length path) padding

-- The path that is kept.
abbrev pub path_of : Inside → List ℕ
path_of a = take a.len a.steps

-- What is after the path's end is zero.
abbrev pub IsPadded : Inside → Type 0
IsPadded a = (length (path_of a) ≡ a.len) × (padded (path_of a) ≡ a.steps) × (a.len ≤ most_levels)

-- So the path tells the fields.
pub tells_fields : (a : Inside) → IsPadded a → record { steps = padded (path_of a); len = length (path_of a) } ≡ a
tells_fields a h = ap (λ s. record { steps = s; len = length (path_of a) }) h.1 ∙ ap (λ n. record { steps = a.steps; len = n }) h.0
