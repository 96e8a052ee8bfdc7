-- Entries in the order of their last use, as the cache sees them, and as the toolchain's `LruCache` has them.
use Rattle.std.specs.Prelude.{◌≡◌, ◌-◌, ◌^◌, List, [], reverse, Option, IfSome}
use Rattle.std.specs.Option.{option_map_or}
use Rattle.lru.specs.LruCache.{LruCache}
use Rattle.fc_cache.specs.declared.held.Held.{Held}

-- Entries, from the least to the most lately used.
pub record Recent (K V : Type 0) : Type 0 where
  pub entries : List (K × Held V)

module _ {K V : Type 0} where
  -- The entries of a ring, which has them the other way round. There is none before it is made.
  abbrev pub entries_of : Option (LruCache K (Held V)) → List (K × Held V)
  entries_of o = option_map_or (λ c. reverse c.entries) o []

  -- A ring, once it is made, has no greatest number of entries.
  abbrev pub IsUnbounded : Option (LruCache K (Held V)) → Type 0
  IsUnbounded o = IfSome o (λ c. c.cap ≡ 2 ^ 64 - 1)
