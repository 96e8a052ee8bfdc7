-- What a map ends as, once a borrow of the value at a key has ended.
use Rattle.std.specs.Prelude.{ℕ, List, [], Option, Some, None}
use Rattle.std.specs.Option.{option_map}
use Rattle.std.specs.Borrow.{Fml, RattleType, MutBor, LendsIf}
use Rattle.core.specs.declared.alloc.Allocator.{Ghosts}
use Rattle.std.specs.declared.alloc.Global.{Global}
use Rattle.std.specs.contracts.alloc.Global as global
use Rattle.std.specs.contracts.impls.GlobalAllocator.TheImpl.{ghosts}
use Rattle.std.specs.declared.cmp.Ordering.{Ordering}
use Rattle.fc_tree_search.specs.Way.{path_to}
use Rattle.fc_map.specs.Entries.{Map}
use Rattle.fc_map.specs.Lends.{OrdMembers, map_row, written_in}

module _ {K Q V Z : Type 0} (cmp : K → Q → Ordering) (k : Q) where
  -- The path that a search for k takes in a map: no step where there is no root.
  abbrev pub path_in : Map K V Z → List ℕ
  path_in None = []
  path_in (Some root) = path_to cmp k root

  -- The map with this value in the pair that a search for k leads to: the tree keeps its shape.
  abbrev pub written_at : Map K V Z → V → Map K V Z
  written_at m w = written_in m (path_in m) w

-- What a reference points to as it is lent for writing, where there is one.
abbrev pub lent_value : {V : Type 0} → Option (MutBor V) → Option V
lent_value o = option_map (λ r. r.now) o

-- Once the borrow r of the value at a key equal to k ends, the map has there what was written through r; where there is none,
-- the map stays as it is.
abbrev pub lends_get_in : {Q : Type 0} (K V A : RattleType) → OrdMembers K.Denot → Ghosts A.Denot → (K.Denot → Q → Ordering) → MutBor (Map K.Denot V.Denot A.Denot) → Q → Option (MutBor V.Denot) → Fml
lends_get_in K V A g heap cmp m k r = LendsIf (map_row K V A g heap) V m r (written_at cmp k m.now) m.now

-- The same of a map that takes its memory from `Global`.
abbrev pub lends_get : {Q : Type 0} (K V : RattleType) → OrdMembers K.Denot → (K.Denot → Q → Ordering) → MutBor (Map K.Denot V.Denot Global) → Q → Option (MutBor V.Denot) → Fml
lends_get K V g cmp m k r = lends_get_in K V global.the_row g ghosts cmp m k r
