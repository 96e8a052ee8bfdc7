-- What a map ends as, once a borrow of a value in it has ended.
use Rattle.std.specs.Prelude.{ℕ, Bool, List, [], ◌∷◌, ◌++◌, take, Option, Some, None}
use Rattle.core.specs.declared.alloc.Allocator.{Ghosts}
use Rattle.std.specs.declared.cmp.Ordering.{Ordering}
use Rattle.std.specs.Borrow.{Fml, RattleType, MutBor, Lends}
use Rattle.fc_tree_search.specs.Written.{written}
use Rattle.fc_map.specs.Entries.{Map}
use Rattle.fc_map.specs.contracts.map.BTreeMap.{the_row}

-- What a clause has as K.Ord.
abbrev pub OrdMembers : Type 0 → Type 0
OrdMembers K = record { partial_cmp : K → K → Option Ordering; eq : K → K → Bool; cmp : K → K → Ordering }

-- The map's type, as the logic holds it.
abbrev pub map_row : (K V A : RattleType) → OrdMembers K.Denot → Ghosts A.Denot → RattleType
map_row K V A g heap = the_row K V A (record { cmp = g.cmp }) (record { eq = g.eq }) (record { partial_cmp = g.partial_cmp }) heap

-- The map with this value at the place that the path leads to: the tree keeps its shape.
abbrev pub written_in : {K V Z : Type 0} → Map K V Z → List ℕ → V → Map K V Z
written_in None path w = None
written_in (Some root) path w = Some (written root path w)

-- The path that takes so many steps of another one, and then a step of its own.
abbrev pub branch : List ℕ → ℕ → ℕ → List ℕ
branch path way place = take way path ++ place ∷ []

-- Once the borrow r of the value at the place ends, the map has there what was written through r.
abbrev pub lends_at : (K V A : RattleType) → OrdMembers K.Denot → Ghosts A.Denot → MutBor (Map K.Denot V.Denot A.Denot) → List ℕ → MutBor V.Denot → Fml
lends_at K V A g heap m path r = Lends (map_row K V A g heap) V m r (written_in m.now path)
