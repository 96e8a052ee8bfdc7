use Rattle.std.proofs.Common.{◌≡◌, ℕ, ◌+◌, ◌-◌, ◌≤◌, List, ◌++◌, length, take, drop}
use Rattle.fc_tree_slots.specs.Cells.{row}
use Rattle.fc_tree_slots.proofs.cells.Cells.carry.Given as goal

abbrev pub invariant-loop-i : goal.invariant-loop-i
invariant-loop-i g l =
    ((xs ys : List g.row.T.Denot) (m : ℕ) → l.initial.sources.held ≡ row xs 0 ys m → length xs ≡ l.from → l.end - l.to ≤ length ys
    → l.sources.held ≡ row xs (l.i - l.to) (drop (l.i - l.to) ys) m)
    × ((xs ys us vs : List g.row.T.Denot) (m w : ℕ) → l.initial.sources.held ≡ row xs 0 ys m → length xs ≡ l.from → l.end - l.to ≤ length ys
    → l.initial.targets.held ≡ row us (l.end - l.to) vs w → length us ≡ l.to
    → l.targets.held ≡ row (us ++ take (l.i - l.to) ys) (l.end - l.i) vs w)
    × (l.count.moves ≡ l.initial.count.moves + (l.i - l.to)) × (l.count.comparisons ≡ l.initial.count.comparisons) × (l.first ≡ l.sources.start)
    × (l.first_target ≡ l.targets.start) × (l.sources.alloc ≡ l.initial.sources.alloc) × (l.targets.alloc ≡ l.initial.targets.alloc)
