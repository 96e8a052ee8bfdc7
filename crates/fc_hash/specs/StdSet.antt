-- A hashed set as std's set behind it shows it.
use Rattle.std.specs.Borrow.{Fml, Lends, MutBor, RattleType}
use Rattle.std.specs.HashMap.Lent.{HashMembers}
use Rattle.std.specs.HashSet.{HashSet, spare}
use Rattle.std.specs.contracts.collections.HashSet as std_set
use Rattle.std.specs.contracts.hash.FoldHasher as fold
use Rattle.std.specs.declared.alloc.Allocator.{Ghosts}
use Rattle.std.specs.declared.hash.BuildHasher as builder
use Rattle.std.specs.declared.hash.Hasher as hasher
use Rattle.fc_hash.specs.StdMap.{hasher_row}
use Rattle.fc_hash.specs.contracts.hashset.TryHashSet.{the_row}
use Rattle.fc_hash.specs.Items.{HashedSet}

-- What contracts see of std's set.
abbrev pub seen_set : {T S : Type 0} → HashSet T S → HashedSet T
seen_set s = record { items = s.keys; spare = spare s }

-- Once the borrow r of std's set ends, the set behind s is what std's set is then.
abbrev pub lends_std_set : (T Z : RattleType) → HashMembers T.Denot → builder.Ghosts hasher_row.Denot fold.the_row.Denot → hasher.Ghosts fold.the_row.Denot → Ghosts Z.Denot
    → MutBor (HashedSet T.Denot) → MutBor (HashSet T.Denot hasher_row.Denot) → Fml
lends_std_set T Z g b w heap s r = Lends (the_row T Z (record { eq = g.eq }) (record { hash_input = g.hash_input }) heap)
    (std_set.the_row T hasher_row Z fold.the_row (record { eq = g.eq }) (record { hash_input = g.hash_input }) b w heap) s r seen_set
