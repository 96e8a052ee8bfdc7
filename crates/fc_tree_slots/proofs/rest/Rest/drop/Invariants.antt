use Rattle.std.proofs.Common.{◌≡◌, ◌+◌, ℕ, List, [], length}
use Rattle.fc_tree_slots.specs.Cells.{row}
use Rattle.fc_tree_slots.proofs.rest.Rest.drop.Given as goal

abbrev pub invariant-loop-i : goal.invariant-loop-i
invariant-loop-i g l = (ys : List g.row.T.Denot) × (m : ℕ) × (l.cells ≡ row [] l.i ys m) × (l.i + length ys ≡ l.end) × (l.end + m ≡ g.row.N)
