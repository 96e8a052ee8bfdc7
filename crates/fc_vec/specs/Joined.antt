-- The items of vectors of vectors, one after the other.
use Rattle.std.specs.Prelude.{List, [], ◌∷◌, ◌++◌}
use Rattle.fc_vec.specs.Vectors.{Vector}

-- The items of all parts, in order.
abbrev pub joined : {T : Type 0} → List (Vector T) → List T
joined [] = []
joined (part ∷ parts) = part.items ++ joined parts
