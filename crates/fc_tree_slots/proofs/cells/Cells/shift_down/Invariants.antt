use Rattle.std.proofs.Common.{◌≡◌, ℕ, ◌+◌, ◌-◌, ◌≤◌, List, ◌++◌, length, take, drop}
use Rattle.fc_tree_slots.specs.Cells.{row}
use Rattle.fc_tree_slots.proofs.cells.Cells.shift_down.Given as goal

abbrev pub invariant-loop-i : goal.invariant-loop-i
invariant-loop-i g l =
    ((xs ys : List g.row.T.Denot) (m : ℕ) → l.initial.places.held ≡ row xs l.by ys m → length xs ≡ l.from - l.by → l.end - l.from ≤ length ys
    → l.places.held ≡ row (xs ++ take l.i ys) l.by (drop l.i ys) m)
    × (l.count.moves ≡ l.initial.count.moves + l.i) × (l.count.comparisons ≡ l.initial.count.comparisons) × (l.start ≡ l.places.start)
    × (l.places.alloc ≡ l.initial.places.alloc)
