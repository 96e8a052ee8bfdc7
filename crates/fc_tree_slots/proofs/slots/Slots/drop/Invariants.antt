use Rattle.std.proofs.Common.{◌≡◌, ℕ, List, [], length, drop}
use Rattle.fc_tree_slots.specs.Cells.{row}
use Rattle.fc_tree_slots.proofs.slots.Slots.drop.Given as goal

abbrev pub invariant-loop-i : goal.invariant-loop-i
invariant-loop-i g l = (xs : List g.row.T.Denot) (m : ℕ) → l.initial.cells ≡ row xs 0 [] m → length xs ≡ l.len → l.cells ≡ row [] l.i (drop l.i xs) m
