use Rattle.std.proofs.Common.{◌≡◌, ◌+◌, ◌≤◌, ◌++◌, length, drop}
use Rattle.std.specs.Fmt.{decimal}
use Rattle.fc_lines.proofs.replies.write_digits.Given as goal

-- the digits of what is left are missing before those that were written
abbrev pub invariant-loop-left : goal.invariant-loop-left
invariant-loop-left l =
    (1 ≤ l.start) × (l.start ≤ 20) × (length l.digits ≡ 20) × (l.start + length (decimal l.n) ≡ 20 + length (decimal l.left))
    × (decimal l.left ++ drop l.start l.digits ≡ decimal l.n)

abbrev pub decreases-loop-left : goal.decreases-loop-left
decreases-loop-left l = l.left
