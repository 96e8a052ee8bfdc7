use Rattle.std.proofs.Common.{◌≡◌, ℕ, ◌+◌, ◌-◌, List, [], length, take, drop}
use Rattle.fc_tree_slots.specs.Cells.{row}
use Rattle.fc_tree_slots.proofs.cells.Cells.shift_up.Given as goal

abbrev pub invariant-loop-i : goal.invariant-loop-i
invariant-loop-i g l =
    ((zs : List g.row.T.Denot) (m : ℕ) → l.initial.places.held ≡ row zs l.by [] m → length zs ≡ l.end - l.by
    → l.places.held ≡ row (take (l.from + l.i) zs) l.by (drop (l.from + l.i) zs) m)
    × (l.count.moves + l.i ≡ l.initial.count.moves + (l.end - l.by - l.from)) × (l.count.comparisons ≡ l.initial.count.comparisons)
    × (l.start ≡ l.places.start) × (l.places.alloc ≡ l.initial.places.alloc)
