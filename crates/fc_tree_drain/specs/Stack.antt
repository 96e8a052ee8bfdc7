-- Stacks of cells that all hold an item.
use Rattle.std.specs.Prelude.{◌≡◌, List, Option, Some, map}
use Rattle.fc_tree_slots.specs.Cells.{present}

-- Each cell holds an item.
abbrev pub AreAllPresent : {T : Type 0} → List (Option T) → Type 0
AreAllPresent xs = xs ≡ map Some (present xs)
