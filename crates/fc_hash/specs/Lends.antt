-- What a map ends as, where a value of it is lent for writing.
use Rattle.std.specs.Prelude.{Bool, Option}
use Rattle.std.specs.Borrow.{LendsIf, Fml, RattleType, MutBor}
use Rattle.std.specs.HashMap.Lent.{HashMembers}
use Rattle.std.specs.Map.{set_value}
use Rattle.std.specs.declared.alloc.Allocator.{Ghosts}
use Rattle.std.specs.contracts.alloc.Global as global
use Rattle.std.specs.contracts.impls.GlobalAllocator.TheImpl.{ghosts}
use Rattle.fc_hash.specs.Pairs.{Hashed}
use Rattle.fc_hash.specs.contracts.hashmap.TryHashMap.{the_row}

-- The map's type, as the logic holds it.
abbrev pub map_row : (K V Z : RattleType) → HashMembers K.Denot → Ghosts Z.Denot → RattleType
map_row K V Z g heap = the_row K V Z (record { eq = g.eq }) (record { hash_input = g.hash_input }) heap

-- The map with this value at the key that is equal to k.
abbrev pub with_value : {K V : Type 0} → (K → K → Bool) → Hashed K V → K → V → Hashed K V
with_value eq m k w = record { pairs = set_value (eq k) m.pairs w; spare = m.spare }

-- Once the borrow r of the value at a key equal to k ends, the map has there what was written through r; where there is none,
-- the map stays as it is.
abbrev pub lends_value_in : (K V Z : RattleType) → HashMembers K.Denot → Ghosts Z.Denot → MutBor (Hashed K.Denot V.Denot) → K.Denot → Option (MutBor V.Denot) → Fml
lends_value_in K V Z g heap m k r = LendsIf (map_row K V Z g heap) V m r (with_value g.eq m.now k) m.now

-- The same of a map that takes its memory from `Global`.
abbrev pub lends_value : (K V : RattleType) → HashMembers K.Denot → MutBor (Hashed K.Denot V.Denot) → K.Denot → Option (MutBor V.Denot) → Fml
lends_value K V g m k r = lends_value_in K V global.the_row g ghosts m k r
