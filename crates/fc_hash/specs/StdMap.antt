-- A hashed map as std's map behind it shows it.
use Rattle.std.specs.Borrow.{Fml, Lends, MutBor, RattleType}
use Rattle.std.specs.HashMap.{HashMap, spare}
use Rattle.std.specs.HashMap.Lent as std_map
use Rattle.std.specs.HashMap.Lent.{HashMembers}
use Rattle.std.specs.contracts.hash.BuildHasherDefault as default
use Rattle.std.specs.contracts.hash.FoldHasher as fold
use Rattle.std.specs.declared.alloc.Allocator.{Ghosts}
use Rattle.std.specs.declared.hash.BuildHasher as builder
use Rattle.std.specs.declared.hash.Hasher as hasher
use Rattle.fc_hash.specs.Lends.{map_row}
use Rattle.fc_hash.specs.Pairs.{Hashed}

-- What contracts see of std's map.
abbrev pub seen : {K V S : Type 0} → HashMap K V S → Hashed K V
seen m = record { pairs = m.entries; spare = spare m }

-- std's hasher, which is fixed.
abbrev pub hasher_row : RattleType
hasher_row = default.the_row fold.the_row

-- Once the borrow r of std's map ends, the map behind m is what std's map is then.
abbrev pub lends_std : (K V Z : RattleType) → HashMembers K.Denot → builder.Ghosts hasher_row.Denot fold.the_row.Denot → hasher.Ghosts fold.the_row.Denot
    → Ghosts Z.Denot → MutBor (Hashed K.Denot V.Denot) → MutBor (HashMap K.Denot V.Denot hasher_row.Denot) → Fml
lends_std K V Z g b w heap m r = Lends (map_row K V Z g heap) (std_map.map_row K V hasher_row Z fold.the_row g b w heap) m r seen
