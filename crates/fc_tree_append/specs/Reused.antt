-- A tree built in the leaves of two others.
use Rattle.std.specs.Prelude.{◌+◌, ◌≤◌, length}
use Rattle.fc_tree_drain.specs.LeafFront.{Left, IsOpenLeaf}
use Rattle.fc_tree_build.specs.Built.{Built}

module _ {K V : Type 0} where
  -- There is room for what is left of both open leaves, and for all that is left once the leaves after them are given.
  abbrev pub HasRoom : Left K V → Left K V → Built K V → Type 0
  HasRoom s t b = (length s.pairs + length t.pairs ≤ b.limit) × (s.in_leaf + t.in_leaf ≤ b.room) × IsOpenLeaf s × IsOpenLeaf t
