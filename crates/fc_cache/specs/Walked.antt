-- What a walk over the entries of a cache has left.
use Rattle.std.specs.Prelude.{List, [], reverse, Option}
use Rattle.std.specs.Option.{option_map_or}
use Rattle.fc_cache.specs.declared.held.Held.{Held}
use Rattle.fc_cache.specs.Entries.{pairs_of}

-- The keys and values of a ring's walk, which has the entries the other way round. There is none where there is no ring.
abbrev pub walked : {K V : Type 0} → Option (List (K × Held V)) → List (K × V)
walked o = pairs_of (option_map_or reverse o [])
