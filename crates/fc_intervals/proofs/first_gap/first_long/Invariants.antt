use Rattle.std.proofs.Common.{◌≡◌, ◌-◌, length, find, nat_le}
use Rattle.fc_intervals.proofs.first_gap.first_long.Given as goal

-- The first long one of the gaps that are still to come is that of all.
abbrev pub invariant-gaps : goal.invariant-gaps
invariant-gaps g l = find (λ e. nat_le l.initial.len (e.end - e.start)) l.gaps ≡ find (λ e. nat_le l.initial.len (e.end - e.start)) l.initial.gaps

abbrev pub decreases-gaps : goal.decreases-gaps
decreases-gaps g l = length l.gaps
