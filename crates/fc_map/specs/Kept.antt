-- What becomes of the blocks of memory that a call on a map asked for.
use Rattle.std.specs.Prelude.{◌≡◌, ◌+◌}
use Rattle.fc_base.specs.declared.asked.Asked.{Asked}
use Rattle.fc_map.specs.Entries.{Map}
pub use Rattle.fc_tree_node.specs.Blocks.{blocks_in}

-- What was asked for stands in the map, and nothing else came or went.
abbrev pub AreAllKept : {K V Z : Type 0} → (old new : Map K V Z) → (before after : Asked) → Type 0
AreAllKept old new before after = after.requests + blocks_in old ≡ before.requests + blocks_in new
