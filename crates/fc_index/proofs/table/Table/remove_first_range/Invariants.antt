use Rattle.std.proofs.Common.{◌≡◌, length}
use Rattle.std.specs.Prelude.{not, filter}
use Rattle.fc_base.specs.Ascending.{IsAscending}
use Rattle.fc_index.specs.Rows.{lies}
use Rattle.fc_index.proofs.table.Table.remove_first_range.Given as goal

-- The rows that stay are the same as at the start.
abbrev pub invariant-rows : goal.invariant-rows
invariant-rows g l =
    (filter (λ e. not (lies g.A.Ord.cmp l.initial.bounds.0 l.initial.bounds.1 e.1.first)) l.self
    ≡ filter (λ e. not (lies g.A.Ord.cmp l.initial.bounds.0 l.initial.bounds.1 e.1.first)) l.initial.self)
    × IsAscending g.I.Ord.cmp l.self

abbrev pub decreases-rows : goal.decreases-rows
decreases-rows g l = length l.self
